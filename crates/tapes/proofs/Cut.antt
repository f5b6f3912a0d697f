-- The nodes before the first bad one, by themselves.
use Rattle.std.proofs.Common.{◌≡◌, ℕ, zero, suc, ◌-◌, ◌<◌, ◌≤◌, List, [], ◌∷◌, ◌++◌, length, get_or, take, drop, sym, refl, ap, ◌∙◌, subst, arith, length-take}
use Rattle.std.proofs.lemmas.List.{get_or-take}
use Rattle.terms.specs.Opening.{Beginning}
use Rattle.terms.proofs.Asked.{up_to_in}
use Rattle.tapes.specs.declared.nodes.Node.{Node}
use Rattle.tapes.specs.declared.tape.Tape.{Tape}
use Rattle.tapes.specs.Nodes.{no_node, name_at, count_at, LawfulNode, Lawful}
use Rattle.tapes.specs.Roots.{roots, children_of}
use Rattle.tapes.specs.Tape.{tape_view, Opened}

module _ (nodes cut : List Node) (n : ℕ) (is : cut ≡ take n nodes) where
  node_is : (t : ℕ) → t < n → get_or cut t no_node ≡ get_or nodes t no_node
  node_is t h = ap (λ (l : List Node). get_or l t no_node) is ∙ get_or-take n nodes t no_node h

  count_is : (t : ℕ) → t < n → count_at cut t ≡ count_at nodes t
  count_is t h = ap (λ (x : Node). x.children) (node_is t h)

  roots_are : (t : ℕ) → t ≤ n → roots (count_at cut) t ≡ roots (count_at nodes) t
  roots_are zero h = refl
  roots_are (suc t) h =
      ap (λ (l : List ℕ). take (length l - count_at cut t) l ++ t ∷ []) (roots_are t (omega arith))
      ∙ ap (λ (k : ℕ). take (length (roots (count_at nodes) t) - k) (roots (count_at nodes) t) ++ t ∷ []) (count_is t (omega arith))

  children_are : (t : ℕ) → t < n → children_of (count_at cut) t ≡ children_of (count_at nodes) t
  children_are t h =
      ap (λ (l : List ℕ). drop (length l - count_at cut t) l) (roots_are t (omega arith))
      ∙ ap (λ (k : ℕ). drop (length (roots (count_at nodes) t) - k) (roots (count_at nodes) t)) (count_is t h)

  pub lawful_cut : Beginning (Lawful nodes) (length nodes) n → (t : ℕ) → t < length cut → Lawful cut t
  lawful_cut b t h =
      let lt : t < n = omega (arith, ap length is, length-take n nodes) in
      let P : Node → Type 0 = λ x. LawfulNode (length (roots (count_at nodes) t)) x in
      let Q : List ℕ → Type 0 = λ rs. LawfulNode (length rs) (get_or cut t no_node) in
      subst Q (sym (roots_are t (omega arith))) (subst P (sym (node_is t lt)) (b.before t lt))

pub cut_opens : (nodes : List Node) (n : ℕ) (s : Tape) → s.nodes.now ≡ take n nodes → Beginning (Lawful nodes) (length nodes) n → Opened nodes (tape_view s)
cut_opens nodes n s is b =
    let cut = s.nodes.now in
    let m : length cut ≡ n = omega (arith, ap length is, length-take n nodes, b.within) in
    record {
      beginning = subst (Beginning (Lawful nodes) (length nodes)) (sym m) b;
      names = λ t h. up_to_in (length cut) (name_at cut) t h ∙ ap (λ (x : Node). x.name.now) (node_is nodes cut n is t (omega arith));
      children = λ t h. up_to_in (length cut) (children_of (count_at cut)) t h ∙ children_are nodes cut n is t (omega arith);
    }
