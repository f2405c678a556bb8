-- The faults of the program: numbers, names, lines and exit statuses.
use Rattle.std.specs.Prelude.{ℕ, ◌≡◌, List, [], ◌++◌, codes, decimal}
use Rattle.clap.specs.Words.{kind_of}
use Rattle.clap.specs.declared.error.kind.ErrorKind.{ErrorKind}
use Rattle.clap.specs.declared.error.kind.ErrorKind.TheVariants as kind
use Rattle.sand_text.specs.declared.fault.TextFault.{TextFault}
use Rattle.sand_text.specs.declared.fault.TextFault.TheVariants as text
use Rattle.sand_text.specs.declared.fault.ReadFault.{ReadFault}
use Rattle.sand_text.specs.declared.fault.ReadFault.TheVariants as read
use Rattle.sand_text.specs.declared.fault.StreamFault.{StreamFault}
use Rattle.sand_text.specs.declared.fault.StreamFault.TheVariants as stream
use Rattle.sand_text.specs.Faults.{text_fault_number, read_fault_number, stream_fault_number}
use Rattle.sand_settle.specs.declared.faults.OneFault.{OneFault}
use Rattle.sand_settle.specs.declared.faults.OneFault.TheVariants as one
use Rattle.sand_settle.specs.Faults.{one_fault_number}
use Rattle.sand_group.specs.declared.faults.GroupFault.{GroupFault}
use Rattle.sand_group.specs.declared.faults.GroupFault.TheVariants as group
use Rattle.sand_group.specs.Faults.{group_fault_number}
use Rattle.sand_model.specs.declared.faults.ShapeFault.{ShapeFault}
use Rattle.sand_model.specs.declared.faults.ShapeFault.TheVariants as shape
use Rattle.sand_model.specs.Faults.{shape_fault_number}
use Rattle.sand_cli.specs.declared.fault.WordsFault.{WordsFault}
use Rattle.sand_cli.specs.declared.fault.WordsFault.TheVariants as words
use Rattle.sand_cli.specs.Fault.{words_fault_number}
use Rattle.sand_commands.specs.declared.faults.DeskFault.{DeskFault}
use Rattle.sand_commands.specs.declared.faults.DeskFault.TheVariants.{Side, Length, TooManyGrains, Memory, Full, Unstable, NotRecurrent, Shapes, Taken, Text, TooLarge, Read, Write, TooLong, Usage, Clash, Narrow, NoSite}

abbrev pub number_of : DeskFault → ℕ
number_of Side = 1
number_of Length = 2
number_of TooManyGrains = 3
number_of Memory = 4
number_of Full = 6
number_of Unstable = 7
number_of NotRecurrent = 8
number_of Shapes = 9
number_of Taken = 17
number_of (Text offset) = 18
number_of (TooLarge offset) = 19
number_of Read = 20
number_of (Write sent) = 21
number_of TooLong = 22
number_of (Usage error) = 23
number_of (Clash conflict) = 23
number_of Narrow = 24
number_of (NoSite index) = 25

abbrev pub name_of : DeskFault → List ℕ
name_of Side = codes "Side"
name_of Length = codes "Length"
name_of TooManyGrains = codes "TooManyGrains"
name_of Memory = codes "Memory"
name_of Full = codes "Full"
name_of Unstable = codes "Unstable"
name_of NotRecurrent = codes "NotRecurrent"
name_of Shapes = codes "Shapes"
name_of Taken = codes "Taken"
name_of (Text offset) = codes "Text"
name_of (TooLarge offset) = codes "TooLarge"
name_of Read = codes "Read"
name_of (Write sent) = codes "Write"
name_of TooLong = codes "TooLong"
name_of (Usage error) = codes "Usage"
name_of (Clash conflict) = codes "Usage"
name_of Narrow = codes "Narrow"
name_of (NoSite index) = codes "NoSite"

-- the place in the input, or the number of bytes written
abbrev pub place_of : DeskFault → List ℕ
place_of (Text offset) = codes " at " ++ decimal offset
place_of (TooLarge offset) = codes " at " ++ decimal offset
place_of (NoSite index) = codes " at " ++ decimal index
place_of (Write sent) = codes " after " ++ decimal sent
place_of fault = []

abbrev pub fault_line : DeskFault → List ℕ
fault_line fault = codes "fault " ++ decimal (number_of fault) ++ codes " " ++ name_of fault
    ++ place_of fault ++ codes "\n"

-- a call for help is not misuse
abbrev pub usage_status : ErrorKind → ℕ
usage_status kind.DisplayHelp = 0
usage_status kind.DisplayVersion = 0
usage_status _ = 2

abbrev pub status_of : DeskFault → ℕ
status_of (Usage error) = usage_status (kind_of error)
status_of (Clash conflict) = 2
status_of fault = 1

abbrev pub of_text : TextFault → DeskFault
of_text (text.Text offset) = Text offset
of_text (text.TooLarge offset) = TooLarge offset
of_text text.Side = Side
of_text text.Narrow = Narrow
of_text text.Length = Length
of_text text.TooManyGrains = TooManyGrains
of_text (text.NoSite index) = NoSite index

abbrev pub of_read : ReadFault → DeskFault
of_read read.Memory = Memory
of_read (read.Text fault) = of_text fault

abbrev pub of_stream : StreamFault → DeskFault
of_stream stream.Memory = Memory
of_stream stream.Read = Read
of_stream (stream.Write sent) = Write sent
of_stream stream.TooLong = TooLong

abbrev pub of_words : WordsFault → DeskFault
of_words words.Memory = Memory
of_words (words.Usage error) = Usage error
of_words (words.Clash conflict) = Clash conflict

abbrev pub of_one : OneFault → DeskFault
of_one one.Full = Full
of_one (one.Memory refused) = Memory

abbrev pub of_group : GroupFault → DeskFault
of_group group.Unstable = Unstable
of_group group.NotRecurrent = NotRecurrent
of_group group.Shapes = Shapes
of_group (group.Memory refused) = Memory

abbrev pub of_shape : ShapeFault → DeskFault
of_shape shape.Side = Side
of_shape shape.Narrow = Narrow

-- a fault of a lower crate keeps its number when it becomes the program's
pub record KeepNumbers : Type 0 where
  pub shape : (fault : ShapeFault) → number_of (of_shape fault) ≡ shape_fault_number fault
  pub one : (fault : OneFault) → number_of (of_one fault) ≡ one_fault_number fault
  pub group : (fault : GroupFault) → number_of (of_group fault) ≡ group_fault_number fault
  pub text : (fault : TextFault) → number_of (of_text fault) ≡ text_fault_number fault
  pub read : (fault : ReadFault) → number_of (of_read fault) ≡ read_fault_number fault
  pub stream : (fault : StreamFault) → number_of (of_stream fault) ≡ stream_fault_number fault
  pub words : (fault : WordsFault) → number_of (of_words fault) ≡ words_fault_number fault
