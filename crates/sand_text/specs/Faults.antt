-- The numbers of this crate's faults.
use Rattle.std.specs.Prelude.{ℕ}
use Rattle.sand_text.specs.declared.fault.TextFault.{TextFault}
use Rattle.sand_text.specs.declared.fault.TextFault.TheVariants as text
use Rattle.sand_text.specs.declared.fault.ReadFault.{ReadFault}
use Rattle.sand_text.specs.declared.fault.ReadFault.TheVariants as read
use Rattle.sand_text.specs.declared.fault.StreamFault.{StreamFault}
use Rattle.sand_text.specs.declared.fault.StreamFault.TheVariants as stream

abbrev pub text_fault_number : TextFault → ℕ
text_fault_number (text.Text offset) = 18
text_fault_number (text.TooLarge offset) = 19
text_fault_number text.Side = 1
text_fault_number text.Narrow = 24
text_fault_number text.Length = 2
text_fault_number text.TooManyGrains = 3
text_fault_number (text.NoSite index) = 25

-- a text that could not be read has the number of its fault
abbrev pub read_fault_number : ReadFault → ℕ
read_fault_number read.Memory = 4
read_fault_number (read.Text fault) = text_fault_number fault

abbrev pub stream_fault_number : StreamFault → ℕ
stream_fault_number stream.Memory = 4
stream_fault_number stream.Read = 20
stream_fault_number (stream.Write sent) = 21
stream_fault_number stream.TooLong = 22
