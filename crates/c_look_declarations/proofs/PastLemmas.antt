-- How far initialisers go, by their form, and lists in braces, one part behind another.
use Rattle.std.proofs.Common.{◌≡◌, ℕ, suc, ◌+◌, ◌<◌, List, ◌∷◌, map, length, drop, slice_index_or, sym, ap, ◌∙◌, arith, rules}
use Rattle.std.proofs.Math.Seq.{drop-cons}
use Rattle.mx_base.specs.declared.places.Place.{Place}
use Rattle.c_tree.specs.declared.tree.Init.{Init, the_lemmas}
use Rattle.c_tree.specs.declared.tree.InitKind.{InitKind}
use Rattle.c_tree.specs.declared.tree.InitKind.TheVariants as v
use Rattle.c_types.specs.Types.{CType, Types, type_at}
use Rattle.bounds_plan.specs.elaboration.Places.{Lvalue}
use Rattle.bounds_plan.specs.elaboration.Source.{Reached, Around}
use Rattle.bounds_plan.specs.elaboration.Expressions.{expression}
use Rattle.bounds_plan.specs.elaboration.Initialisers.{members_filled, many_filled, initialiser}
use Rattle.steps_facts.specs.declared.knows.Part.{Part}
use Rattle.steps_facts.specs.Around.{part_types, part_offsets}

-- ---- by form

past : Place → InitKind → Around → CType → Lvalue → ℕ → Reached → Reached
past p k around t l offset r = (initialiser expression (record { place = p; kind = k }) around t l offset r).after

by_kind : (x : Init) (k : InitKind) (around : Around) (t : CType) (l : Lvalue) (offset : ℕ) (r q : Reached) → x.kind ≡ k → q ≡ past x.place k around t l offset r → q ≡ (initialiser expression x around t l offset r).after
unfolding past
by_kind x k around t l offset r q is h = h ∙ ap (λ (z : InitKind). past x.place z around t l offset r) (sym is)

many_at : (p : Place) (all : List Init) (around : Around) (t : CType) (l : Lvalue) (offset : ℕ) (r : Reached) → past p (v.Many all) around t l offset r ≡ (many_filled (map (initialiser expression) all) p around t l offset r).after
unfolding past
many_at p all around t l offset r = search (rules, the_lemmas)

pub many_go : (x : Init) (all : List Init) (around : Around) (t u : CType) (l : Lvalue) (offset : ℕ) (r q : Reached) → x.kind ≡ v.Many all → t ≡ u
    → q ≡ (many_filled (map (initialiser expression) all) x.place around u l offset r).after → q ≡ (initialiser expression x around t l offset r).after
many_go x all around t u l offset r q is same h = by_kind x (v.Many all) around t l offset r q is
    (h ∙ ap (λ (z : CType). (many_filled (map (initialiser expression) all) x.place around z l offset r).after) (sym same) ∙ sym (many_at x.place all around t l offset r))

-- ---- members

module _ (around : Around) (table : Types) (place : Place) (l : Lvalue) (offset : ℕ) where
  inner : List Init → List Part → Reached → Reached
  inner all parts r = (members_filled (map (initialiser expression) all) around place (part_types table parts) (part_offsets parts) l offset r).after

  pub members_go : (all : List Init) (x : Init) (more : List Init) (parts : List Part) (p : Part) (ps : List Part) (r q : Reached) → all ≡ x ∷ more → parts ≡ p ∷ ps
      → q ≡ (initialiser expression x around (type_at table p.kind) l (offset + p.offset) r).after
      → (members_filled (map (initialiser expression) more) around place (part_types table ps) (part_offsets ps) l offset q).after
      ≡ (members_filled (map (initialiser expression) all) around place (part_types table parts) (part_offsets parts) l offset r).after
  unfolding inner
  members_go all x more parts p ps r q is ip hq = ap (λ (z : Reached). inner more ps z) hq
      ∙ sym (ap (λ (z : List Init). inner z parts r) is ∙ ap (λ (z : List Part). inner (x ∷ more) z r) ip)

-- the i-th of a list and what stands behind it
pub from_on : (all : List Init) (x : Init) (i : ℕ) → i < length all → x ≡ slice_index_or all i x → drop i all ≡ x ∷ drop (i + 1) all
from_on all x i h e = let next : suc i ≡ i + 1 = omega arith in drop-cons all i x h ∙ ap (λ y. y ∷ drop (suc i) all) (sym e) ∙ ap (λ k. x ∷ drop k all) next
