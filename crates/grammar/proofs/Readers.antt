-- The readers accept exactly what the grammar and the limits have, and no template has two readings.
use Rattle.grammar.specs.Laws.{ReadAsTheGrammar, OneReading}
use Rattle.grammar.proofs.ControlsRead.{control_forth, control_back}
use Rattle.grammar.proofs.Opens.{separators_open}
use Rattle.grammar.proofs.UnreadRead.{unread_forth, unread_back}
use Rattle.grammar.proofs.Whole as whole

pub read_as_the_grammar_lem : ReadAsTheGrammar
read_as_the_grammar_lem = whole.read_as_the_grammar_lem (unread_forth control_forth) (unread_back control_back) separators_open

pub one_reading : OneReading
one_reading = whole.readings_are_unique read_as_the_grammar_lem
