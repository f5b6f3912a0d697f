-- A reading whose separators are texts, and the same with its separators read.
use Rattle.std.proofs.Common.{◌≡◌, ℕ, true, false, ◌&&◌, List, [], Ok, Result, sym, refl, ap, ◌∙◌, subst}
use Rattle.std.proofs.lemmas.Bool.{and_parts, and_from}
use Rattle.refusal.specs.Refusals.{carried}
use Rattle.refusal.specs.declared.error.Side.{Side}
use Rattle.refusal.specs.declared.error.Side.TheVariants.{Left, Middle, Right}
use Rattle.grammar.specs.Deep.{plainly, separator_at, deeply, repeat_from, limited_separator, limited_repeat}
use Rattle.grammar.specs.Grammar.{Separators, unwritten, single, triple, Repeats, ReadsSeparator}
use Rattle.grammar.specs.Marks.{halve, closes}
use Rattle.grammar.specs.Readings.{Piece, RepeatOf, Separator, Repeat}
use Rattle.grammar.specs.Results.{on_ok, on_err, Fault}
use Rattle.grammar.specs.Shapes.{TypedRepeat}
use Rattle.grammar.specs.Templates.{Typed, template_at}
use Rattle.grammar.proofs.Chains.{by_on_ok, by_on_err, same_ok}
use Rattle.grammar.proofs.Plain.{shedding, embedded, shed_embed, plains_shed, reads_shed, reads_embed, shed_limited, embed_limited}
use Rattle.grammar.proofs.Unread.{Itself, Raw, unread_repeat, unread, UnreadForth, UnreadBack, Open, SeparatorsOpen}

-- ---- one separator
-- a separator's text reads as r, within the limits
pub record Means (t : List ℕ) (r : Separator) : Type 0 where
  pub clear : closes t ≡ false
  pub reads : ReadsSeparator t r
  pub limit : limited_separator r ≡ true

abbrev pub separator_of : List ℕ → Result Separator Fault
separator_of t = on_ok (template_at t) (λ t. Ok (plainly t))

plainly_shedding : (v : Typed) → shedding (unread v) ≡ plainly v
plainly_shedding v = ap (λ (l : List (Piece ⊥)). record { left = v.left; right = v.right; pieces = l }) (sym (plains_shed v.shapes))

plainly_embedded : (v : Typed) (r : Separator) → unread v ≡ embedded r → plainly v ≡ r
plainly_embedded v r e =
    sym (plainly_shedding v) ∙ ap shedding e ∙ ap (λ (l : List (Piece ⊥)). record { left = r.left; right = r.right; pieces = l }) (shed_embed (RepeatOf (List ℕ)) r.pieces)

pub separator_forth : UnreadForth → (t : List ℕ) (r : Separator) → closes t ≡ false → separator_of t ≡ Ok r → Means t r
separator_forth forth t r h e =
    let p = by_on_ok (template_at t) (λ t. Ok (plainly t)) r e in
    let f = forth t p.0 p.1 in
    subst (Means t) (plainly_shedding p.0 ∙ same_ok (plainly p.0) r p.2)
    (record { clear = h; reads = reads_shed f.0 h; limit = shed_limited (unread p.0) f.1 })

pub separator_back : UnreadBack → (t : List ℕ) (r : Separator) → Means t r → separator_of t ≡ Ok r
separator_back back t r g =
    let f = back t (embedded r) (reads_embed g.reads) (embed_limited (RepeatOf (List ℕ)) r g.limit) in
    ap (λ m. on_ok m (λ t. Ok (plainly t))) f.reads ∙ ap (λ x. Ok x) (plainly_embedded f.typed r f.means)

-- ---- one repeat
abbrev pub refilled : {A B : Type 0} → RepeatOf A → B → B → B → RepeatOf B
refilled x a b c = record {
  from = x.from;
  to = x.to;
  left = x.left;
  middle_left = x.middle_left;
  middle_right = x.middle_right;
  right = x.right;
  before = a;
  between = b;
  behind = c;
}

-- the same range and powers, the separators read
pub record Alike (x : RepeatOf (List ℕ)) (y : Repeat) : Type 0 where
  pub is : y ≡ refilled x y.before y.between y.behind
  pub before : Means x.before y.before
  pub between : Means x.between y.between
  pub behind : Means x.behind y.behind

separators_read : {u l m r : List ℕ} {a b c : Separator} → Separators Itself u l m r → ReadsSeparator l a → ReadsSeparator m b → ReadsSeparator r c → Separators ReadsSeparator u a b c
separators_read {a = a} {b} {c} (unwritten i j k) f g h =
    unwritten (subst (λ t. ReadsSeparator t a) (sym i) f) (subst (λ t. ReadsSeparator t b) (sym j) g) (subst (λ t. ReadsSeparator t c) (sym k) h)
separators_read {a = a} {b} {c} (single p i j k) f g h =
    single p (subst (λ t. ReadsSeparator t a) (sym i) f) (subst (λ t. ReadsSeparator t b) (sym j) g) (subst (λ t. ReadsSeparator t c) (sym k) h)
separators_read {a = a} {b} {c} (triple p i j k) f g h =
    triple p (subst (λ t. ReadsSeparator t a) (sym i) f) (subst (λ t. ReadsSeparator t b) (sym j) g) (subst (λ t. ReadsSeparator t c) (sym k) h)

pub repeat_read : {t s : List ℕ} {x : RepeatOf (List ℕ)} {y : Repeat} → Raw t s x → Alike x y → Repeats ReadsSeparator t s y
repeat_read {t} {s} {x} {y} g k =
    subst (Repeats ReadsSeparator t s) (sym k.is)
    (record {
      path = g.path;
      powers = g.powers;
      separators = g.separators;
      is = g.is;
      first = g.first;
      steps = g.steps;
      index = g.index;
      given = g.given;
      three = separators_read g.three k.before.reads k.between.reads k.behind.reads;
    })

-- the texts of three separators that read as a, b and c
record Texts (u : List ℕ) (a b c : Separator) : Type 0 where
  before : List ℕ
  between : List ℕ
  behind : List ℕ
  three : Separators Itself u before between behind
  first : ReadsSeparator before a
  second : ReadsSeparator between b
  third : ReadsSeparator behind c

texts : {u : List ℕ} {a b c : Separator} → Separators ReadsSeparator u a b c → Texts u a b c
texts (unwritten f g h) = record { before = []; between = []; behind = []; three = unwritten refl refl refl; first = f; second = g; third = h }
texts (single {m = m} p f g h) = record { before = []; between = m; behind = []; three = single p refl refl refl; first = f; second = g; third = h }
texts (triple {l = l} {m} {r} p f g h) = record { before = l; between = m; behind = r; three = triple p refl refl refl; first = f; second = g; third = h }

pub repeat_raw : SeparatorsOpen → (t s : List ℕ) (y : Repeat) → Repeats ReadsSeparator t s y → limited_repeat y ≡ true → (x : RepeatOf (List ℕ)) × Raw t s x × Alike x y
repeat_raw opened t s y g h =
    let k = texts g.three in
    let x : RepeatOf (List ℕ) = refilled y k.before k.between k.behind in
    let raw : Raw t s x = record {
      path = g.path;
      powers = g.powers;
      separators = g.separators;
      is = g.is;
      first = g.first;
      steps = g.steps;
      index = g.index;
      given = g.given;
      three = k.three;
    } in
    let o = opened t s x raw in
    let p = and_parts (limited_separator y.before) (limited_separator y.between && limited_separator y.behind) h in
    let q = and_parts (limited_separator y.between) (limited_separator y.behind) p.1 in (
      x,
      raw,
      record {
        is = refl;
        before = record { clear = o.before; reads = k.first; limit = p.0 };
        between = record { clear = o.between; reads = k.second; limit = q.0 };
        behind = record { clear = o.behind; reads = k.third; limit = q.1 };
      },
    )

pub alike_limited : {x : RepeatOf (List ℕ)} {y : Repeat} → Alike x y → limited_repeat y ≡ true
alike_limited {x} {y} k =
    and_from (limited_separator y.before) (limited_separator y.between && limited_separator y.behind) k.before.limit
    (and_from (limited_separator y.between) (limited_separator y.behind) k.between.limit k.behind.limit)

-- ---- one repeat, as the reader takes it
side_forth : UnreadForth → (n : ℕ) (side : Side) (t : List ℕ) (r : Separator) → closes (halve 124 t) ≡ false → separator_at n side t ≡ Ok r → Means (halve 124 t) r
side_forth forth n side t r h e =
    separator_forth forth (halve 124 t) r h (by_on_err (λ e. carried (record { piece = n; side = side; fault = e })) (separator_of (halve 124 t)) r e)

side_back : UnreadBack → (n : ℕ) (side : Side) (t : List ℕ) (r : Separator) → Means (halve 124 t) r → separator_at n side t ≡ Ok r
side_back back n side t r g =
    ap (on_err (λ e. carried (record { piece = n; side = side; fault = e }))) (separator_back back (halve 124 t) r g)

pub repeat_forth : UnreadForth → (n : ℕ) (x : TypedRepeat) (y : Repeat) → Open (unread_repeat x) → repeat_from n x ≡ Ok y → Alike (unread_repeat x) y
repeat_forth forth n x y o e =
    let a = by_on_ok (separator_at n Left x.left_sep) _ y e in
    let b = by_on_ok (separator_at n Middle x.middle_sep) _ y a.2 in
    let c = by_on_ok (separator_at n Right x.right_sep) _ y b.2 in
    subst (Alike (unread_repeat x)) (same_ok (deeply x a.0 b.0 c.0) y c.2)
    (record {
      is = refl;
      before = side_forth forth n Left x.left_sep a.0 o.before a.1;
      between = side_forth forth n Middle x.middle_sep b.0 o.between b.1;
      behind = side_forth forth n Right x.right_sep c.0 o.behind c.1;
    })

pub repeat_back_lem : UnreadBack → (n : ℕ) (x : TypedRepeat) (y : Repeat) → Alike (unread_repeat x) y → repeat_from n x ≡ Ok y
repeat_back_lem back n x y k =
    rw (side_back back n Left x.left_sep y.before k.before, side_back back n Middle x.middle_sep y.between k.between, side_back back n Right x.right_sep y.behind k.behind)
    (ap (λ z. Ok z) (sym k.is))
