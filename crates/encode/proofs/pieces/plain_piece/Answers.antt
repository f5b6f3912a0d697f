use Rattle.encode.proofs.pieces.plain_piece.Goals as goal

pub returns-in-Single : goal.returns-in-Single
returns-in-Single c = rw c.in-Single.is c.child.ensures
