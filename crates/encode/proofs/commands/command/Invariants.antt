use Rattle.std.proofs.Common.{◌∷◌, drop}
use Rattle.codes.specs.Opcodes.{number_of}
use Rattle.encode.specs.Shapes.{words}
use Rattle.pen.proofs.Pages.{Goes}
use Rattle.encode.proofs.commands.command.Given as goal

abbrev pub invariant-loop-n : goal.invariant-loop-n
invariant-loop-n l = Goes l.fn.pen (number_of l.fn.kind ∷ words l.operands) l.pen (words (drop l.n-index l.operands))
