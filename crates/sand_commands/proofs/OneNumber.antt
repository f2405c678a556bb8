-- A fault keeps its number when it becomes the program's.
use Rattle.sand_commands.proofs.Common.{common_steps, arith, ◌≡◌, TextFault, StreamFault, number_of, of_shape, of_one, of_group, of_text, of_read, of_stream, of_words, KeepNumbers}
use Rattle.sand_model.specs.declared.faults.ShapeFault.{ShapeFault}
use Rattle.sand_model.specs.Faults.{shape_fault_number}
use Rattle.sand_settle.specs.declared.faults.OneFault.{OneFault}
use Rattle.sand_settle.specs.Faults.{one_fault_number}
use Rattle.sand_group.specs.declared.faults.GroupFault.{GroupFault}
use Rattle.sand_group.specs.Faults.{group_fault_number}
use Rattle.sand_text.specs.declared.fault.ReadFault.{ReadFault}
use Rattle.sand_text.specs.Faults.{text_fault_number, read_fault_number, stream_fault_number}
use Rattle.sand_cli.specs.declared.fault.WordsFault.{WordsFault}
use Rattle.sand_cli.specs.Fault.{words_fault_number}

of_a_shape : (fault : ShapeFault) → number_of (of_shape fault) ≡ shape_fault_number fault
of_a_shape fault = grind (arith, common_steps)

of_one_pile : (fault : OneFault) → number_of (of_one fault) ≡ one_fault_number fault
of_one_pile fault = grind (arith, common_steps)

of_the_group : (fault : GroupFault) → number_of (of_group fault) ≡ group_fault_number fault
of_the_group fault = grind (arith, common_steps)

of_a_text : (fault : TextFault) → number_of (of_text fault) ≡ text_fault_number fault
of_a_text fault = grind (arith, common_steps)

of_a_reading : (fault : ReadFault) → number_of (of_read fault) ≡ read_fault_number fault
of_a_reading fault = grind (arith, common_steps, of_a_text)

of_a_stream : (fault : StreamFault) → number_of (of_stream fault) ≡ stream_fault_number fault
of_a_stream fault = grind (arith, common_steps)

of_the_words : (fault : WordsFault) → number_of (of_words fault) ≡ words_fault_number fault
of_the_words fault = grind (arith, common_steps)

pub one_number : KeepNumbers
one_number = record {
  shape = of_a_shape;
  one = of_one_pile;
  group = of_the_group;
  text = of_a_text;
  read = of_a_reading;
  stream = of_a_stream;
  words = of_the_words;
}
