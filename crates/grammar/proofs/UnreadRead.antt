-- A template with its separators still texts is read as the grammar and the limits have it.
use Rattle.std.proofs.Common.{◌≡◌, ℕ, true, leb, List, length, take, drop, Ok, Result, ap, ◌∙◌, subst}
use Rattle.std.proofs.lemmas.Bool.{and_parts, and_from, le-leb, leb-true}
use Rattle.grammar.specs.Deep.{limited_by}
use Rattle.grammar.specs.Grammar.{Prefix, Suffix, ReadsBy}
use Rattle.grammar.specs.Limits.{piece_allowance}
use Rattle.grammar.specs.Results.{on_ok, Fault}
use Rattle.grammar.specs.Shapes.{Shape}
use Rattle.grammar.specs.Templates.{Typed, prefix_at, suffix_at, body_at, bodied, template_at}
use Rattle.grammar.proofs.BodiesRead.{RawPiece, BodyRead, body_forth, BodyFound, body_back}
use Rattle.grammar.proofs.Chains.{by_on_ok, same_ok}
use Rattle.grammar.proofs.FramesRead.{prefix_forth, PrefixFound, prefix_back, suffix_forth, SuffixFound, suffix_back}
use Rattle.grammar.proofs.Unread.{Raw, unreads, unread, stepped, ControlForth, ControlBack, UnreadForth, UnreadBack}

abbrev typed_by : ℕ → ℕ → ℕ → List ℕ → List Shape → Typed
typed_by l r place body ss = record { left = l; right = r; place = place; body = body; shapes = ss }

abbrev Known : List ℕ → Typed → Type 0
Known cs t = ReadsBy Raw cs (unread t) × (limited_by (λ x. true) (unread t) ≡ true)

known : (cs rest body : List ℕ) (l r place : ℕ) (ss : List Shape) → Prefix cs l rest → Suffix rest r body → BodyRead piece_allowance body ss → Known cs (typed_by l r place body ss)
known cs rest body l r place ss p s b = (
  record { rest = rest; body = body; prefix = p; suffix = s; pieces = b.pieces },
  and_from (leb (length (unreads ss)) piece_allowance) (stepped (unreads ss)) (le-leb (length (unreads ss)) piece_allowance b.count) b.steps,
)

bodied_forth : ControlForth → (cs rest body : List ℕ) (l r place : ℕ) (t : Typed) → Prefix cs l rest → Suffix rest r body → bodied l r place body ≡ Ok t → Known cs t
bodied_forth f cs rest body l r place t p s e =
    let v = by_on_ok (body_at piece_allowance place body) (λ ss. Ok (typed_by l r place body ss)) t e in
    subst (Known cs) (same_ok (typed_by l r place body v.0) t v.2) (known cs rest body l r place v.0 p s (body_forth f piece_allowance place body v.0 v.1))

pub unread_forth : ControlForth → UnreadForth
unread_forth f cs t e =
    let p = by_on_ok (prefix_at cs) _ t e in
    let q = p.0 in
    let s = by_on_ok (suffix_at q.1 (drop q.1 cs)) _ t p.2 in
    let z = s.0 in
    bodied_forth f cs (drop q.1 cs) (take z.1 (drop q.1 cs)) q.0 z.0 q.1 t (prefix_forth cs q p.1) (suffix_forth q.1 (drop q.1 cs) z s.1) s.2

bodied-back : (l r place : ℕ) (body : List ℕ) (ps : List RawPiece) (b : BodyFound piece_allowance place body ps) → bodied l r place body ≡ Ok (typed_by l r place body b.shapes)
bodied-back l r place body ps b = ap (λ (m : Result (List Shape) Fault). on_ok m (λ ss. Ok (typed_by l r place body ss))) b.reads

framed-back : (cs rest body : List ℕ) (l r : ℕ) (ps : List RawPiece) (p : PrefixFound cs l rest) → SuffixFound p.end rest r body → (b : BodyFound piece_allowance p.end body ps)
    → template_at cs ≡ Ok (typed_by l r p.end body b.shapes)
framed-back cs rest body l r ps p s b =
    ap (λ (m : Result (ℕ × ℕ) Fault). on_ok m (λ q. on_ok (suffix_at q.1 (drop q.1 cs)) (λ z. bodied q.0 z.0 q.1 (take z.1 (drop q.1 cs))))) p.reads
    ∙ ap (λ (t : List ℕ). on_ok (suffix_at p.end t) (λ z. bodied l z.0 p.end (take z.1 t))) p.behind
    ∙ ap (λ (m : Result (ℕ × ℕ) Fault). on_ok m (λ z. bodied l z.0 p.end (take z.1 rest))) s.reads
    ∙ ap (bodied l r p.end) s.before
    ∙ bodied-back l r p.end body ps b

pub unread_back : ControlBack → UnreadBack
unread_back g cs r h e =
    let k = and_parts (leb (length r.pieces) piece_allowance) (stepped r.pieces) e in
    let p = prefix_back h.prefix in
    let s = suffix_back p.end h.suffix in
    let b = body_back g h.pieces piece_allowance (leb-true (length r.pieces) piece_allowance k.0) k.1 p.end in
    record {
      typed = typed_by r.left r.right p.end h.body b.shapes;
      reads = framed-back cs h.rest h.body r.left r.right r.pieces p s b;
      means = ap (λ (ps : List RawPiece). record { left = r.left; right = r.right; pieces = ps }) b.means;
    }
