-- The literals of lists in braces, one part behind another.
use Rattle.std.proofs.Common.{◌≡◌, ℕ, zero, suc, ◌+◌, ◌-◌, ◌<◌, refl, sym, ap, ◌∙◌, List, ◌∷◌, map, length, drop, slice_index_or, arith}
use Rattle.std.proofs.Math.Seq.{drop-cons}
use Rattle.c_tree.specs.declared.tree.Init.{Init}
use Rattle.c_types.specs.Types.{CType, Types, type_at}
use Rattle.bounds_plan.specs.elaboration.Source.{Around}
use Rattle.c_accepted.specs.SourceLiterals.{init_sizes, elements_sizes, members_sizes}
use Rattle.steps_facts.specs.declared.knows.Part.{Part}
use Rattle.steps_facts.specs.Around.{part_types, part_offsets}
use Rattle.c_literals.specs.declared.literals.Literals.{Literals}
use Rattle.c_literals.specs.Laid.{with_literals}
use Rattle.c_literals.proofs.LaidLemmas.{both_laid}

from_on : (all : List Init) (x : Init) (i : ℕ) → i < length all → x ≡ slice_index_or all i x → drop i all ≡ x ∷ drop (i + 1) all
from_on all x i h e = let next : suc i ≡ i + 1 = omega arith in drop-cons all i x h ∙ ap (λ y. y ∷ drop (suc i) all) (sym e) ∙ ap (λ k. x ∷ drop k all) next

one_less : (n : ℕ) → (n ≡ 0 → ⊥) → n ≡ suc (n - 1)
one_less zero ne = absurd (ne refl)
one_less (suc n) ne = omega arith

pub elements_laid : (all : List Init) (x : Init) (i : ℕ) (around : Around) (t : CType) (left : ℕ) (l0 l1 whole : Literals) → i < length all → x ≡ slice_index_or all i x → (left ≡ 0 → ⊥)
    → l1 ≡ with_literals l0 (init_sizes x around t) → with_literals l0 (elements_sizes (map init_sizes (drop i all)) around t left) ≡ whole
    → with_literals l1 (elements_sizes (map init_sizes (drop (i + 1) all)) around t (left - 1)) ≡ whole
elements_laid all x i around t left l0 l1 whole h e ne is w = let rest = elements_sizes (map init_sizes (drop (i + 1) all)) around t (left - 1) in
    ap (λ (l : Literals). with_literals l rest) is ∙ both_laid l0 (init_sizes x around t) rest
    ∙ sym (ap (λ (xs : List Init). with_literals l0 (elements_sizes (map init_sizes xs) around t left)) (from_on all x i h e)
    ∙ ap (λ (n : ℕ). with_literals l0 (elements_sizes (map init_sizes (x ∷ drop (i + 1) all)) around t n)) (one_less left ne))
    ∙ w

pub members_laid : (all : List Init) (x : Init) (i : ℕ) (around : Around) (table : Types) (parts : List Part) (p : Part) (ps : List Part) (l0 l1 whole : Literals) → i < length all → x ≡ slice_index_or all i x → parts ≡ p ∷ ps
    → l1 ≡ with_literals l0 (init_sizes x around (type_at table p.kind)) → with_literals l0 (members_sizes (map init_sizes (drop i all)) around (part_types table parts) (part_offsets parts)) ≡ whole
    → with_literals l1 (members_sizes (map init_sizes (drop (i + 1) all)) around (part_types table ps) (part_offsets ps)) ≡ whole
members_laid all x i around table parts p ps l0 l1 whole h e ip is w = let rest = members_sizes (map init_sizes (drop (i + 1) all)) around (part_types table ps) (part_offsets ps) in
    ap (λ (l : Literals). with_literals l rest) is ∙ both_laid l0 (init_sizes x around (type_at table p.kind)) rest
    ∙ sym (ap (λ (xs : List Init). with_literals l0 (members_sizes (map init_sizes xs) around (part_types table parts) (part_offsets parts))) (from_on all x i h e)
    ∙ ap (λ (qs : List Part). with_literals l0 (members_sizes (map init_sizes (x ∷ drop (i + 1) all)) around (part_types table qs) (part_offsets qs))) ip)
    ∙ w
