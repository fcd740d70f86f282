-- The numbers of what is wrong with a text. Assumes nothing: these are definitions.
use Rattle.std.specs.Prelude.{ℕ}
use Rattle.sheet_writer.specs.Answers.{refusal_verdict}
use Rattle.text.specs.declared.fault.TextFault.{TextFault}
use Rattle.text.specs.declared.fault.TextFault.TheVariants.{Item, Number, Word, Misfit, More, Turn, Length}
use Rattle.text.specs.declared.fault.Reason.{Reason}
use Rattle.text.specs.declared.fault.Reason.TheVariants.{Text, Sheet}

-- the text's own number of a fault, as docs/TEXT.md has it
abbrev pub fault_number : TextFault → ℕ
fault_number Item = 71
fault_number Number = 72
fault_number Word = 73
fault_number Misfit = 74
fault_number More = 75
fault_number Turn = 76
fault_number Length = 77

-- the number of a reason: the text's own, or what document 01 has for the writer's
abbrev pub reason_number : Reason → ℕ
reason_number (Text f) = fault_number f
reason_number (Sheet w) = (refusal_verdict w).number
