-- From what calls make of a book's contents to what they make of the register that gives these contents.
use Rattle.std.proofs.Common.{◌≡◌, ℕ, zero, suc, ◌<◌, Bool, true, false, cond, List, [], ◌∷◌, map, length, Some, None, Ok, Err, Option, Result, sym, refl, ap, ◌∙◌, subst, arith}
use Rattle.std.specs.List.{AllByRecursion as All}
use Rattle.codes.specs.Code.{code}
use Rattle.codes.specs.Calls.{some_or}
use Rattle.codes.specs.Written.{write}
use Rattle.engine.specs.Rules.{Rule}
use Rattle.grammar.specs.Matchers.{Matched, matcher_at}
use Rattle.grammar.specs.Results.{on_ok, on_err}
use Rattle.grammar.proofs.Chains.{by_on_ok, same_some, nothing, same_ok, refused}
use Rattle.register.specs.declared.error.BookError.{BookError}
use Rattle.register.specs.declared.error.BookError.TheVariants.{Matcher, NoneStands}
use Rattle.register.specs.Calls.{admits, names, template_at, read_back, on_accepted}
use Rattle.register.specs.Contents.{stored, Contents, contents_of, stored_matchers, decoded, added_to, removed_from, replaced_in, code_at, read_back_in}
use Rattle.register.specs.Register.{Defined, Register, matchers, patterns, further, place_of, reading_of, code_of, admitted, named, served, added, removed, replaced}
use Rattle.register.specs.Standing.{same_matcher}
use Rattle.register.proofs.Listed.{Listed, is_admitted, is_served, stored-matchers, stored_more, stored-without}
use Rattle.register.proofs.Storable.{Storable, decoded_is, reading_is}

-- ---- places
further_some : (o : Option ℕ) (i : ℕ) → further o ≡ Some i → (n : ℕ) × (o ≡ Some n) × (suc n ≡ i)
further_some None i e = nothing i e
further_some (Some n) i e = (n, refl, same_some (suc n) i e)

pub place_below : (x : Matched) (ms : List Matched) (i : ℕ) → place_of x ms ≡ Some i → i < length ms
place_below x [] i e = nothing i e
place_below x (y ∷ ms) i e = go (same_matcher y x) (place_below x ms) e
  where
    go : (b : Bool) → ((n : ℕ) → place_of x ms ≡ Some n → n < length ms) → cond b (Some 0) (further (place_of x ms)) ≡ Some i → i < suc (length ms)
    go true below e = let h = same_some 0 i e in omega arith
    go false below e = let h = further_some (place_of x ms) i e in let l = below h.0 h.1 in omega (arith, h.2)

some_or_ok : (o : Option ℕ) (e : BookError) (i : ℕ) → some_or e o ≡ Ok i → o ≡ Some i
some_or_ok None e i h = refused e i h
some_or_ok (Some n) e i h = ap Some (same_ok n i h)

pub named-below : (ms : List Matched) (m : List ℕ) (i : ℕ) → named ms m ≡ Ok i → i < length ms
named-below ms m i e =
    let a = by_on_ok (on_err Matcher (matcher_at m)) (λ x. some_or NoneStands (place_of x ms)) i e in
    place_below a.0 ms i (some_or_ok (place_of a.0 ms) NoneStands i a.2)

-- ---- a result of which each accepted value is treated alike
accepted_alike : {A B : Type 0} (r : Result A BookError) (y : B) (f f' : A → B) → ((x : A) → r ≡ Ok x → f x ≡ f' x) → on_accepted r y f ≡ on_accepted r y f'
accepted_alike (Ok x) y f f' h = h x refl
accepted_alike (Err e) y f f' h = refl

accepted_through : {A B C : Type 0} (k : B → C) (r : Result A BookError) (y : B) (f : A → B) → on_accepted r (k y) (λ x. k (f x)) ≡ k (on_accepted r y f)
accepted_through k (Ok x) y f = refl
accepted_through k (Err e) y f = refl

ok_alike : {A B : Type 0} (r : Result A BookError) (f f' : A → Result B BookError) → ((x : A) → r ≡ Ok x → f x ≡ f' x) → on_ok r f ≡ on_ok r f'
ok_alike (Ok x) f f' h = h x refl
ok_alike (Err e) f f' h = refl

code_at_lem : (i : ℕ) (xs : List Defined) → i < length xs → All (λ x. Storable x.template) xs → decoded (code_at i (map stored xs)) ≡ reading_of (template_at i xs)
code_at_lem i [] lt h = absurd (omega arith)
code_at_lem zero (x ∷ xs) lt h = decoded_is x.template h.0
code_at_lem (suc i) (x ∷ xs) lt h = code_at_lem i xs (omega arith) h.1

matchers-length : (xs : List Defined) → length (matchers xs) ≡ length xs
matchers-length [] = refl
matchers-length (x ∷ xs) = ap suc (matchers-length xs)

-- ---- steps, for contents c that the register g gives
module _ (g : Register) (c : Contents) (is : c ≡ contents_of g) where
  pub matchers_same : stored_matchers c ≡ matchers g.definitions
  matchers_same = ap stored_matchers is ∙ stored-matchers g.definitions

  pub names_same : (m : List ℕ) → named (stored_matchers c) m ≡ names g m
  names_same m = ap (λ ms. named ms m) matchers_same

  pub admits_same : (rule : Rule) (load size : ℕ) (m t : List ℕ) → load ≡ patterns (stored_matchers c) → admitted rule load size (stored_matchers c) m t ≡ admits rule size g m t
  admits_same rule load size m t e =
      ap (λ n. admitted rule n size (stored_matchers c) m t) e ∙ ap (λ ms. admitted rule (patterns ms) size ms m t) matchers_same

  -- one definition more
  pub defined_same : (rule : Rule) (load size : ℕ) (m t : List ℕ) → load ≡ patterns (stored_matchers c)
      → on_accepted (admitted rule load size (stored_matchers c) m t) c (λ p. added_to c (record { matcher = p.0; code = code p.1 })) ≡ contents_of (on_accepted (admits rule size g m t) g (λ p. added g (record { matcher = p.0; template = t })))
  defined_same rule load size m t e =
      let r = admits rule size g m t in
      ap (λ x. on_accepted x c (λ p. added_to c (record { matcher = p.0; code = code p.1 }))) (admits_same rule load size m t e)
      ∙ ap (λ c. on_accepted r c (λ p. added_to c (record { matcher = p.0; code = code p.1 }))) is
      ∙ accepted_alike r (contents_of g) _ _ (λ p h.
      let k = is_admitted rule (patterns (matchers g.definitions)) size (matchers g.definitions) m t p h in
      ap (λ w. added_to (contents_of g) (record { matcher = p.0; code = code w })) (sym (reading_is t p.1 k.read))
      ∙ ap (λ l. record { definitions = l; fallback = code_of g.fallback }) (sym (stored_more g.definitions (record { matcher = p.0; template = t }))))
      ∙ accepted_through contents_of r g (λ p. added g (record { matcher = p.0; template = t }))

  -- one less
  pub withdrawn_same : (m : List ℕ) → on_accepted (named (stored_matchers c) m) c (removed_from c) ≡ contents_of (on_accepted (names g m) g (removed g))
  withdrawn_same m =
      ap (λ x. on_accepted x c (removed_from c)) (names_same m)
      ∙ ap (λ c. on_accepted (names g m) c (removed_from c)) is
      ∙ accepted_alike (names g m) (contents_of g) _ _ (λ i h. ap (λ l. record { definitions = l; fallback = code_of g.fallback }) (sym (stored-without i g.definitions)))
      ∙ accepted_through contents_of (names g m) g (removed g)

  -- another fallback
  pub replaced_same : (t : List ℕ) → on_accepted (served t) c (λ r. replaced_in c (code r)) ≡ contents_of (on_accepted (served t) g (λ r. replaced g t))
  replaced_same t =
      ap (λ c. on_accepted (served t) c (λ r. replaced_in c (code r))) is
      ∙ accepted_alike (served t) (contents_of g) _ _ (λ r h. ap (λ w. replaced_in (contents_of g) (code w)) (sym (reading_is t r (is_served t r h).read)))
      ∙ accepted_through contents_of (served t) g (λ r. replaced g t)

  -- what a read-back writes
  pub read_back_same : (m : List ℕ) → Listed g → read_back_in c m ≡ read_back g m
  read_back_same m l =
      ap (λ c. read_back_in c m) is
      ∙ ap (λ ms. on_ok (named ms m) (λ i. Ok (write (decoded (code_at i (map stored g.definitions)))))) (stored-matchers g.definitions)
      ∙ ok_alike (names g m) _ _ (λ i h. ap (λ r. Ok (write r)) (code_at_lem i g.definitions (subst (λ n. i < n) (matchers-length g.definitions) (named-below (matchers g.definitions) m i h)) l.definitions))
