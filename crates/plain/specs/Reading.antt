-- What a reader of a pattern has read, and what it will have read in all.
use Rattle.std.specs.Prelude.{ℕ, cond, List, length, take, Some, None, Option, nat_le}
use Rattle.matching.specs.Reader.{Got, items_of, read_from, after}
use Rattle.plain.specs.declared.reader.Reader.{Reader}

-- the items of a text that is not too long
abbrev pub short_items : List ℕ → Got
short_items text = cond (nat_le (length text) 96) (items_of text) None

-- the items and the group count that are read
abbrev pub reads : Option Reader → Got
reads None = None
reads (Some r) = Some (take r.len r.items, r.groups)

-- what is read and what is still to be read, where the groups in ks are open
abbrev pub ahead : List ℕ → Reader → Got
ahead ks r = after (take r.len r.items) (read_from 0 ks r.groups r.rest.now)
