-- Commands and their runs are read back, and nothing else is.
use Rattle.std.proofs.Common.{◌≡◌, ℕ, zero, suc, ◌<◌, ◌≤◌, Bool, true, false, cond, eqb, List, [], ◌∷◌, length, Some, None, refl, ap, ◌∙◌, subst, arith}
use Rattle.std.proofs.lemmas.Bool.{eqb-true}
use Rattle.std.specs.List.{AllByRecursion as All}
use Rattle.grammar.proofs.Chains.{nothing as none, same_some}
use Rattle.grammar.specs.Readings.{Piece, text, child, capture, repeat, Byte, Power, Index, Capture, Reading}
use Rattle.codes.specs.Formed.{Fits, Apart, Formed}
use Rattle.codes.specs.Code.{word, Command, byte, step, point, range, hold, command, run, bytes, steps, commands, code_by}
use Rattle.codes.specs.Decode.{on_some, Got, word_at, byte_at, index_at, capture_at, operands, run_at, group, body_at, reading_at}
use Rattle.codes.proofs.Words.{by_on_some, Inverse, words, one_byte, indices, captures}
use Rattle.codes.proofs.Groups.{group_forth, group-back}

abbrev pub FitsC : {R : Type 0} → (R → Type 0) → Command R → Type 0
FitsC F (byte b) = Byte b
FitsC F (step i) = Index i
FitsC F (point i l r) = Index i × Power l × Power r
FitsC F (range x) = F x
FitsC F (hold n) = Capture n

-- ---- the bounds of the pieces are those of the commands
bytes_forth : {R : Type 0} (F : R → Type 0) (bs : List ℕ) (ks : List (Command R)) → All (FitsC F) (bytes bs ks) → All Byte bs × All (FitsC F) ks
bytes_forth F [] ks h = (tt, h)
bytes_forth F (b ∷ bs) ks h = let t = bytes_forth F bs ks h.1 in ((h.0, t.0), t.1)

bytes_back : {R : Type 0} (F : R → Type 0) (bs : List ℕ) (ks : List (Command R)) → All Byte bs → All (FitsC F) ks → All (FitsC F) (bytes bs ks)
bytes_back F [] ks h t = t
bytes_back F (b ∷ bs) ks h t = (h.0, bytes_back F bs ks h.1 t)

steps_forth : {R : Type 0} (F : R → Type 0) (s : List ℕ) (ks : List (Command R)) → All (FitsC F) (steps s ks) → All Index s × All (FitsC F) ks
steps_forth F [] ks h = (tt, h)
steps_forth F (i ∷ s) ks h = let t = steps_forth F s ks h.1 in ((h.0, t.0), t.1)

steps_back : {R : Type 0} (F : R → Type 0) (s : List ℕ) (ks : List (Command R)) → All Index s → All (FitsC F) ks → All (FitsC F) (steps s ks)
steps_back F [] ks h t = t
steps_back F (i ∷ s) ks h t = (h.0, steps_back F s ks h.1 t)

fits_forth : {R : Type 0} (F : R → Type 0) (ps : List (Piece R)) → All (FitsC F) (commands ps) → All (Fits F) ps
fits_forth F [] h = tt
fits_forth F (text b bs ∷ ps) h = let t = bytes_forth F bs (commands ps) h.1 in ((h.0, t.0), fits_forth F ps t.1)
fits_forth F (child s i l r ∷ ps) h = let t = steps_forth F s (point i l r ∷ commands ps) h in ((t.0, t.1.0.0, t.1.0.1, t.1.0.2), fits_forth F ps t.1.1)
fits_forth F (capture n ∷ ps) h = (h.0, fits_forth F ps h.1)
fits_forth F (repeat s x ∷ ps) h = let t = steps_forth F s (range x ∷ commands ps) h in ((t.0, t.1.0), fits_forth F ps t.1.1)

fits-back : {R : Type 0} (F : R → Type 0) (ps : List (Piece R)) → All (Fits F) ps → All (FitsC F) (commands ps)
fits-back F [] h = tt
fits-back F (text b bs ∷ ps) h = (h.0.0, bytes_back F bs (commands ps) h.0.1 (fits-back F ps h.1))
fits-back F (child s i l r ∷ ps) h = steps_back F s (point i l r ∷ commands ps) h.0.0 ((h.0.1, h.0.2, h.0.3), fits-back F ps h.1)
fits-back F (capture n ∷ ps) h = (h.0, fits-back F ps h.1)
fits-back F (repeat s x ∷ ps) h = steps_back F s (range x ∷ commands ps) h.0.0 (h.0.1, fits-back F ps h.1)

-- what stands in a repeat is read back, and is written in front of what follows
pub record Codes {R : Type 0} (at : List ℕ → Got R) (w : R → List ℕ → List ℕ) (P : R → Type 0) : Type 0 where
  pub reads : Inverse at w P
  pub grows : (x : R) (cs : List ℕ) → length cs ≤ length (w x cs)

-- ---- one command
abbrev pub Is : {R : Type 0} → (R → List ℕ → List ℕ) → (R → Type 0) → ℕ → List ℕ → Command R × List ℕ → Type 0
Is w F o cs p = (o ∷ cs ≡ command w p.0 p.1) × FitsC F p.0

is : {R : Type 0} (w : R → List ℕ → List ℕ) (F : R → Type 0) (o : ℕ) (cs : List ℕ) (k : Command R) (more : List ℕ) (p : Command R × List ℕ) → Some (k, more) ≡ Some p → o ∷ cs ≡ command w k more → FitsC F k → Is w F o cs p
is w F o cs k more p e h t = subst (Is w F o cs) (same_some _ _ e) (h, t)

pub command_forth : {R : Type 0} (at : List ℕ → Got R) (w : R → List ℕ → List ℕ) (F : R → Type 0) → Inverse at w F → (o : ℕ) (cs : List ℕ) (p : Command R × List ℕ) → operands at o cs ≡ Some p → Is w F o cs p
command_forth {R} at w F g o cs p e = go2 (eqb o 2) refl e
  where
    go6 : (b : Bool) → eqb o 6 ≡ b → cond b (on_some (capture_at cs) (λ n. Some (hold n.0, n.1))) None ≡ Some p → Is w F o cs p
    go6 false t q = none _ q
    go6 true t q =
        let n = by_on_some (capture_at cs) _ p q in
        let f = captures.forth cs _ _ n.1 in
        is w F o cs (hold n.0.0) n.0.1 p n.2 (λ i. eqb-true o 6 t i ∷ f.0 i) f.1

    go5 : (b : Bool) → eqb o 5 ≡ b → cond b (on_some (at cs) (λ x. Some (range x.0, x.1))) (cond (eqb o 6) (on_some (capture_at cs) (λ n. Some (hold n.0, n.1))) None) ≡ Some p → Is w F o cs p
    go5 false t q = go6 (eqb o 6) refl q
    go5 true t q =
        let n = by_on_some (at cs) _ p q in
        let f = g.forth cs _ _ n.1 in
        is w F o cs (range n.0.0) n.0.1 p n.2 (λ i. eqb-true o 5 t i ∷ f.0 i) f.1

    go4 : (b : Bool) → eqb o 4 ≡ b → cond b (on_some (index_at cs) (λ i. on_some (word_at i.1) (λ l. on_some (word_at l.1) (λ r. Some (point i.0 l.0 r.0, r.1))))) (cond (eqb o 5) (on_some (at cs) (λ x. Some (range x.0, x.1))) (cond (eqb o 6) (on_some (capture_at cs) (λ n. Some (hold n.0, n.1))) None)) ≡ Some p → Is w F o cs p
    go4 false t q = go5 (eqb o 5) refl q
    go4 true t q =
        let i = by_on_some (index_at cs) _ p q in
        let l = by_on_some (word_at i.0.1) _ p i.2 in
        let r = by_on_some (word_at l.0.1) _ p l.2 in
        let fi = indices.forth cs _ _ i.1 in
        let fl = words.forth _ _ _ l.1 in
        let fr = words.forth _ _ _ r.1 in
        is w F o cs (point i.0.0 l.0.0 r.0.0) r.0.1 p r.2 ((λ j. eqb-true o 4 t j ∷ fi.0 j) ∙ ap (λ m. 4 ∷ word i.0.0 m) (fl.0 ∙ ap (word l.0.0) fr.0)) (fi.1, fl.1, fr.1)

    go3 : (b : Bool) → eqb o 3 ≡ b → cond b (on_some (index_at cs) (λ i. Some (step i.0, i.1))) (cond (eqb o 4) (on_some (index_at cs) (λ i. on_some (word_at i.1) (λ l. on_some (word_at l.1) (λ r. Some (point i.0 l.0 r.0, r.1))))) (cond (eqb o 5) (on_some (at cs) (λ x. Some (range x.0, x.1))) (cond (eqb o 6) (on_some (capture_at cs) (λ n. Some (hold n.0, n.1))) None))) ≡ Some p → Is w F o cs p
    go3 false t q = go4 (eqb o 4) refl q
    go3 true t q =
        let n = by_on_some (index_at cs) _ p q in
        let f = indices.forth cs _ _ n.1 in
        is w F o cs (step n.0.0) n.0.1 p n.2 (λ i. eqb-true o 3 t i ∷ f.0 i) f.1

    go2 : (b : Bool) → eqb o 2 ≡ b → cond b (on_some (byte_at cs) (λ b. Some (byte b.0, b.1))) (cond (eqb o 3) (on_some (index_at cs) (λ i. Some (step i.0, i.1))) (cond (eqb o 4) (on_some (index_at cs) (λ i. on_some (word_at i.1) (λ l. on_some (word_at l.1) (λ r. Some (point i.0 l.0 r.0, r.1))))) (cond (eqb o 5) (on_some (at cs) (λ x. Some (range x.0, x.1))) (cond (eqb o 6) (on_some (capture_at cs) (λ n. Some (hold n.0, n.1))) None)))) ≡ Some p → Is w F o cs p
    go2 false t q = go3 (eqb o 3) refl q
    go2 true t q =
        let n = by_on_some (byte_at cs) _ p q in
        let f = one_byte.forth cs _ _ n.1 in
        is w F o cs (byte n.0.0) n.0.1 p n.2 (λ i. eqb-true o 2 t i ∷ f.0 i) f.1

-- ---- a run of them
pub run_forth : {R : Type 0} (at : List ℕ → Got R) (w : R → List ℕ → List ℕ) (F : R → Type 0) → Inverse at w F → (n : ℕ) (cs : List ℕ) (ks : List (Command R)) (rest : List ℕ) → run_at at n cs ≡ Some (ks, rest) → (cs ≡ run w ks rest) × All (FitsC F) ks
run_forth at w F g zero cs ks rest e = none _ e
run_forth at w F g (suc n) [] ks rest e = none _ e
run_forth {R} at w F g (suc n) (o ∷ cs) ks rest e = go (eqb o 0) refl (λ ds js. run_forth at w F g n ds js) e
  where
    Goal : List (Command R) × List ℕ → Type 0
    Goal p = (o ∷ cs ≡ run w p.0 p.1) × All (FitsC F) p.0

    go : (b : Bool) → eqb o 0 ≡ b → ((ds : List ℕ) (js : List (Command R)) (more : List ℕ) → run_at at n ds ≡ Some (js, more) → (ds ≡ run w js more) × All (FitsC F) js) → cond {A = Got (List (Command R))} b (Some ([], cs)) (on_some (operands at o cs) (λ k. on_some (run_at at n k.1) (λ ks. Some (k.0 ∷ ks.0, ks.1)))) ≡ Some (ks, rest) → Goal (ks, rest)
    go true t ih q = subst Goal (same_some _ _ q) ((λ i. eqb-true o 0 t i ∷ cs), tt)
    go false t ih q =
        let k = by_on_some (operands at o cs) _ _ q in
        let js = by_on_some (run_at at n k.0.1) _ _ k.2 in
        let f = command_forth at w F g o cs k.0 k.1 in
        let r = ih k.0.1 js.0.0 js.0.1 js.1 in
        subst Goal (same_some _ _ js.2) (f.0 ∙ ap (command w k.0.0) r.0, (f.1, r.1))

pub command_grows : {R : Type 0} (at : List ℕ → Got R) (w : R → List ℕ → List ℕ) (F : R → Type 0) → Codes at w F → (k : Command R) (cs : List ℕ) → length cs < length (command w k cs)
command_grows at w F g (byte b) cs = omega arith
command_grows at w F g (step i) cs = omega arith
command_grows at w F g (point i l r) cs = omega arith
command_grows at w F g (range x) cs = omega (arith, g.grows x cs)
command_grows at w F g (hold n) cs = omega arith

pub run_grows : {R : Type 0} (at : List ℕ → Got R) (w : R → List ℕ → List ℕ) (F : R → Type 0) → Codes at w F → (ks : List (Command R)) (cs : List ℕ) → length cs < length (run w ks cs)
run_grows at w F g [] cs = omega arith
run_grows at w F g (k ∷ ks) cs = omega (arith, run_grows at w F g ks cs, command_grows at w F g k (run w ks cs))

pub run-back : {R : Type 0} (at : List ℕ → Got R) (w : R → List ℕ → List ℕ) (F : R → Type 0) → Codes at w F → (n : ℕ) (ks : List (Command R)) (rest : List ℕ) → All (FitsC F) ks → length (run w ks rest) ≤ n → run_at at n (run w ks rest) ≡ Some (ks, rest)
run-back at w F g zero [] rest h l = absurd (omega arith)
run-back at w F g zero (k ∷ ks) rest h l = absurd (omega (arith, command_grows at w F g k (run w ks rest)))
run-back at w F g (suc n) [] rest h l = refl
run-back at w F g (suc n) (byte b ∷ ks) rest h l = rw (one_byte.back b (run w ks rest) h.0, run-back at w F g n ks rest h.1 (omega arith))
run-back at w F g (suc n) (step i ∷ ks) rest h l = rw (indices.back i (run w ks rest) h.0, run-back at w F g n ks rest h.1 (omega arith))
run-back at w F g (suc n) (point i x y ∷ ks) rest h l = rw (indices.back i (word x (word y (run w ks rest))) h.0.0, words.back x (word y (run w ks rest)) h.0.1, words.back y (run w ks rest) h.0.2, run-back at w F g n ks rest h.1 (omega arith))
run-back at w F g (suc n) (range x ∷ ks) rest h l = rw (g.reads.back x (run w ks rest) h.0, run-back at w F g n ks rest h.1 (omega (arith, g.grows x (run w ks rest))))
run-back at w F g (suc n) (hold m ∷ ks) rest h l = rw (captures.back m (run w ks rest) h.0, run-back at w F g n ks rest h.1 (omega arith))

-- ---- a reading
body_forth : {R : Type 0} (at : List ℕ → Got R) (w : R → List ℕ → List ℕ) (F : R → Type 0) → Inverse at w F → (l r : ℕ) → Power l → Power r → (cs : List ℕ) (p : Reading R × List ℕ) → body_at at l r cs ≡ Some p → (1 ∷ word l (word r cs) ≡ code_by w p.0 p.1) × Formed F p.0
body_forth {R} at w F g l r hl hr cs p e =
    let ks = by_on_some (run_at at (length cs) cs) _ p e in
    let ps = by_on_some (group ks.0.0) _ p ks.2 in
    go ks.0.0 ks.0.1 ps.0 (run_forth at w F g (length cs) cs ks.0.0 ks.0.1 ks.1) (group_forth ks.0.0 ps.0 ps.1) ps.2
  where
    Goal : Reading R × List ℕ → Type 0
    Goal q = (1 ∷ word l (word r cs) ≡ code_by w q.0 q.1) × Formed F q.0

    go : (ks : List (Command R)) (rest : List ℕ) (ps : List (Piece R)) → (cs ≡ run w ks rest) × All (FitsC F) ks → (ks ≡ commands ps) × Apart ps → Some (record { left = l; right = r; pieces = ps }, rest) ≡ Some p → Goal p
    go ks rest ps a b q =
        subst Goal (same_some _ _ q) (
          ap (λ m. 1 ∷ word l (word r m)) (a.0 ∙ ap (λ js. run w js rest) b.0),
          record { left = hl; right = hr; fits = fits_forth F ps (subst (All (FitsC F)) b.0 a.1); apart = b.1 },
        )

reading_forth : {R : Type 0} (at : List ℕ → Got R) (w : R → List ℕ → List ℕ) (F : R → Type 0) → Inverse at w F → (cs : List ℕ) (r : Reading R) (rest : List ℕ) → reading_at at cs ≡ Some (r, rest) → (cs ≡ code_by w r rest) × Formed F r
reading_forth at w F g [] r rest e = none _ e
reading_forth at w F g (o ∷ cs) r rest e = go (eqb o 1) refl e
  where
    go : (b : Bool) → eqb o 1 ≡ b → cond b (on_some (word_at cs) (λ l. on_some (word_at l.1) (λ r. body_at at l.0 r.0 r.1))) None ≡ Some (r, rest) → (o ∷ cs ≡ code_by w r rest) × Formed F r
    go false t q = none _ q
    go true t q =
        let x = by_on_some (word_at cs) _ _ q in
        let y = by_on_some (word_at x.0.1) _ _ x.2 in
        let fx = words.forth _ _ _ x.1 in
        let fy = words.forth _ _ _ y.1 in
        let b = body_forth at w F g x.0.0 y.0.0 fx.1 fy.1 y.0.1 (r, rest) y.2 in
        ((λ i. eqb-true o 1 t i ∷ fx.0 i) ∙ ap (λ m. 1 ∷ word x.0.0 m) fy.0 ∙ b.0, b.1)

reading_back : {R : Type 0} (at : List ℕ → Got R) (w : R → List ℕ → List ℕ) (F : R → Type 0) → Codes at w F → (r : Reading R) (rest : List ℕ) → Formed F r → reading_at at (code_by w r rest) ≡ Some (r, rest)
reading_back at w F g r rest h =
    let b = run w (commands r.pieces) (rest) in
    let k = run-back at w F g (length b) (commands r.pieces) rest (fits-back F r.pieces h.fits) (omega arith) in
    rw (words.back r.left (word r.right b) h.left, words.back r.right b h.right, k, group-back r.pieces h.apart)

pub readings : {R : Type 0} (at : List ℕ → Got R) (w : R → List ℕ → List ℕ) (F : R → Type 0) → Codes at w F → Codes (reading_at at) (code_by w) (Formed F)
readings at w F g = record {
  reads = record { forth = reading_forth at w F g.reads; back = reading_back at w F g };
  grows = λ r cs. omega (arith, run_grows at w F g (commands r.pieces) cs);
}

-- more turns than bytes change nothing
pub run_turns : {R : Type 0} (at : List ℕ → Got R) (w : R → List ℕ → List ℕ) (F : R → Type 0) → Codes at w F → (n m : ℕ) (cs : List ℕ) → length cs ≤ n → length cs ≤ m → run_at at n cs ≡ run_at at m cs
run_turns at w F g zero zero cs h l = refl
run_turns at w F g zero (suc m) [] h l = refl
run_turns at w F g zero (suc m) (o ∷ cs) h l = absurd (omega arith)
run_turns at w F g (suc n) zero [] h l = refl
run_turns at w F g (suc n) zero (o ∷ cs) h l = absurd (omega arith)
run_turns at w F g (suc n) (suc m) [] h l = refl
run_turns {R} at w F g (suc n) (suc m) (o ∷ cs) h l = ap (λ (x : Got (List (Command R))). cond (eqb o 0) (Some ([], cs)) x) (go (operands at o cs) refl (run_turns at w F g n m))
  where
    go : (q : Got (Command R)) → operands at o cs ≡ q → ((ds : List ℕ) → length ds ≤ n → length ds ≤ m → run_at at n ds ≡ run_at at m ds)
        → on_some {B = List (Command R) × List ℕ} q (λ k. on_some {B = List (Command R) × List ℕ} (run_at at n k.1) (λ ks. Some (k.0 ∷ ks.0, ks.1))) ≡ on_some {B = List (Command R) × List ℕ} q (λ k. on_some {B = List (Command R) × List ℕ} (run_at at m k.1) (λ ks. Some (k.0 ∷ ks.0, ks.1)))
    go None e ih = refl
    go (Some k) e ih =
        let f = command_forth at w F g.reads o cs k e in
        let s : suc (length cs) ≡ length (command w k.0 k.1) = ap length f.0 in
        let t = command_grows at w F g k.0 k.1 in
        rw (ih k.1 (omega arith) (omega arith))

pub command_shrinks : {R : Type 0} (at : List ℕ → Got R) (w : R → List ℕ → List ℕ) (F : R → Type 0) → Codes at w F → (o : ℕ) (cs : List ℕ) (p : Command R × List ℕ) → operands at o cs ≡ Some p → length p.1 ≤ length cs
command_shrinks at w F g o cs p e =
    let s : suc (length cs) ≡ length (command w p.0 p.1) = ap length (command_forth at w F g.reads o cs p e).0 in
    omega (arith, command_grows at w F g p.0 p.1)
