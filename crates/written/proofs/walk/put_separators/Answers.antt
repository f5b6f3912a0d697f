use Rattle.written.proofs.Runs.{separators_written}
use Rattle.written.proofs.walk.put_separators.Goals as goal
use Rattle.wire.specs.Cursor.{ahead_of}

pub returns-clause-wrote : goal.returns-clause-wrote
returns-clause-wrote c = separators_written (ahead_of c.args.commands.now) (ahead_of c.pass.new.self) (ahead_of c.pass-2.new.self) c.pass.ensures.commands c.pass-2.ensures.commands c.put_three_separators.ensures c.put_all.ensures
