use Rattle.grammar.proofs.Readers.{read_as_the_grammar_lem, one_reading}
use Rattle.grammar.proofs.theorems.read_as_the_grammar.Goals as goal

pub returns : goal.returns
returns c = record { read = read_as_the_grammar_lem; unique = one_reading }
