-- What initialisers fill, by their form, and what lists in braces fill, one part behind another.
use Rattle.std.proofs.Common.{◌≡◌, ℕ, zero, suc, ◌+◌, ◌-◌, List, [], ◌∷◌, ◌++◌, map, refl, sym, ap, ◌∙◌, arith, rules}
use Rattle.mx_base.specs.declared.places.Place.{Place}
use Rattle.c_tree.specs.declared.tree.Expr.{Expr}
use Rattle.c_tree.specs.declared.tree.Init.{Init, the_lemmas}
use Rattle.c_tree.specs.declared.tree.InitKind.{InitKind}
use Rattle.c_tree.specs.declared.tree.InitKind.TheVariants as v
use Rattle.c_types.specs.Types.{CType, Array, Struct, Types, type_at, members_of}
use Rattle.c_types.specs.Layouts.{layout_of, offsets_from}
use Rattle.bounds_plan.specs.elaboration.Places.{Lvalue}
use Rattle.bounds_plan.specs.elaboration.Source.{Reached, Around}
use Rattle.bounds_plan.specs.elaboration.Expressions.{expression}
use Rattle.bounds_plan.specs.elaboration.Initialisers.{Filled, Filling, zeros, member_zeros, one_filled, after_one, elements_filled, members_filled, many_filled, initialiser}
use Rattle.steps_facts.specs.declared.knows.Part.{Part}
use Rattle.steps_facts.specs.Around.{part_types, part_offsets}
use Rattle.steps_pieces.specs.Put.{Put}
use Rattle.steps_filling.specs.Effects.{went_effects}
use Rattle.c_emit_initialisers.proofs.ZeroLemmas.{effects_on}

-- ---- by form

filled : Place → InitKind → Filling
filled p k = initialiser expression (record { place = p; kind = k })

by_kind : (x : Init) (k : InitKind) (around : Around) (t : CType) (l : Lvalue) (offset : ℕ) (r : Reached) (f : Filled) → x.kind ≡ k → filled x.place k around t l offset r ≡ f → initialiser expression x around t l offset r ≡ f
unfolding filled
by_kind x k around t l offset r f is h = ap (λ (z : InitKind). filled x.place z around t l offset r) is ∙ h

one_at : (p : Place) (e : Expr) (around : Around) (t : CType) (l : Lvalue) (offset : ℕ) (r : Reached)
    → filled p (v.One e) around t l offset r ≡ record { effects = one_filled around t p l offset (expression e around r); after = after_one t r (expression e around r).after }
unfolding filled
one_at p e around t l offset r = search (rules, the_lemmas)

many_at : (p : Place) (all : List Init) (around : Around) (t : CType) (l : Lvalue) (offset : ℕ) (r : Reached) → filled p (v.Many all) around t l offset r ≡ many_filled (map (initialiser expression) all) p around t l offset r
unfolding filled
many_at p all around t l offset r = search (rules, the_lemmas)

pub one_put : (x : Init) (e : Expr) (around : Around) (t : CType) (l : Lvalue) (offset : ℕ) (r : Reached) (d : ℕ) (s0 s1 : Put) → x.kind ≡ v.One e
    → s1 ≡ went_effects (one_filled around t x.place l offset (expression e around r)) d s0 → s1 ≡ went_effects (initialiser expression x around t l offset r).effects d s0
one_put x e around t l offset r d s0 s1 is h = h ∙ sym (ap (λ (z : Filled). went_effects z.effects d s0) (by_kind x (v.One e) around t l offset r _ is (one_at x.place e around t l offset r)))

pub one_goes : (x : Init) (e : Expr) (around : Around) (t : CType) (l : Lvalue) (offset : ℕ) (r q : Reached) → x.kind ≡ v.One e
    → q ≡ after_one t r (expression e around r).after → q ≡ (initialiser expression x around t l offset r).after
one_goes x e around t l offset r q is h = h ∙ sym (ap (λ (z : Filled). z.after) (by_kind x (v.One e) around t l offset r _ is (one_at x.place e around t l offset r)))

pub many_put : (x : Init) (all : List Init) (around : Around) (t : CType) (l : Lvalue) (offset : ℕ) (r : Reached) (d : ℕ) (s0 s1 : Put) → x.kind ≡ v.Many all
    → s1 ≡ went_effects (many_filled (map (initialiser expression) all) x.place around t l offset r).effects d s0 → s1 ≡ went_effects (initialiser expression x around t l offset r).effects d s0
many_put x all around t l offset r d s0 s1 is h = h ∙ sym (ap (λ (z : Filled). went_effects z.effects d s0) (by_kind x (v.Many all) around t l offset r _ is (many_at x.place all around t l offset r)))

pub many_goes : (x : Init) (all : List Init) (around : Around) (t : CType) (l : Lvalue) (offset : ℕ) (r q : Reached) → x.kind ≡ v.Many all
    → q ≡ (many_filled (map (initialiser expression) all) x.place around t l offset r).after → q ≡ (initialiser expression x around t l offset r).after
many_goes x all around t l offset r q is h = h ∙ sym (ap (λ (z : Filled). z.after) (by_kind x (v.Many all) around t l offset r _ is (many_at x.place all around t l offset r)))

-- ---- a list in braces, by what it fills

module _ (all : List Init) (place : Place) (around : Around) (l : Lvalue) (offset : ℕ) (r : Reached) where
  many : CType → Filled
  many t = many_filled (map (initialiser expression) all) place around t l offset r

  pub many_by_put : (t u : CType) (d : ℕ) (s0 s1 : Put) → t ≡ u → s1 ≡ went_effects (many_filled (map (initialiser expression) all) place around u l offset r).effects d s0
      → s1 ≡ went_effects (many_filled (map (initialiser expression) all) place around t l offset r).effects d s0
  unfolding many
  many_by_put t u d s0 s1 is h = h ∙ ap (λ (z : CType). went_effects (many z).effects d s0) (sym is)

  pub many_by_goes : (t u : CType) (q : Reached) → t ≡ u → q ≡ (many_filled (map (initialiser expression) all) place around u l offset r).after → q ≡ (many_filled (map (initialiser expression) all) place around t l offset r).after
  unfolding many
  many_by_goes t u q is h = h ∙ ap (λ (z : CType). (many z).after) (sym is)

  -- members that are known by a table are those of the struct
  members : List CType → List ℕ → Filled
  members ts os = members_filled (map (initialiser expression) all) around place ts os l offset r

  pub struct_put : (table : Types) (parts : List Part) (number : ℕ) (d : ℕ) (s0 s1 : Put) → part_types table parts ≡ members_of around.structs number → part_offsets parts ≡ offsets_from 0 (map (layout_of around.structs) (members_of around.structs number))
      → s1 ≡ went_effects (members_filled (map (initialiser expression) all) around place (part_types table parts) (part_offsets parts) l offset r).effects d s0
      → s1 ≡ went_effects (many_filled (map (initialiser expression) all) place around (Struct number) l offset r).effects d s0
  unfolding members
  struct_put table parts number d s0 s1 ht ho h = h ∙ ap (λ (ts : List CType). went_effects (members ts (part_offsets parts)).effects d s0) ht ∙ ap (λ (os : List ℕ). went_effects (members (members_of around.structs number) os).effects d s0) ho

  pub struct_goes : (table : Types) (parts : List Part) (number : ℕ) (q : Reached) → part_types table parts ≡ members_of around.structs number → part_offsets parts ≡ offsets_from 0 (map (layout_of around.structs) (members_of around.structs number))
      → q ≡ (members_filled (map (initialiser expression) all) around place (part_types table parts) (part_offsets parts) l offset r).after
      → q ≡ (many_filled (map (initialiser expression) all) place around (Struct number) l offset r).after
  unfolding members
  struct_goes table parts number q ht ho h = h ∙ ap (λ (ts : List CType). (members ts (part_offsets parts)).after) ht ∙ ap (λ (os : List ℕ). (members (members_of around.structs number) os).after) ho

-- ---- elements

one_less : (n m : ℕ) → (n ≡ 0 → ⊥) → m ≡ n - 1 → n ≡ suc m
one_less zero m ne h = absurd (ne refl)
one_less (suc n) m ne h = omega arith

module _ (around : Around) (t : CType) (place : Place) (size : ℕ) (l : Lvalue) where
  elements : List Init → (left to : ℕ) → Reached → Filled
  elements all left to r = elements_filled (map (initialiser expression) all) around t place size left l to r

  one_more : (x : Init) (more : List Init) (left less to far : ℕ) (r q : Reached) → (left ≡ 0 → ⊥) → less ≡ left - 1 → far ≡ to + size → q ≡ (initialiser expression x around t l to r).after
      → elements (x ∷ more) left to r ≡ record { effects = (initialiser expression x around t l to r).effects ++ (elements more less far q).effects; after = (elements more less far q).after }
  unfolding elements
  one_more x more left less to far r q ne hl hf hq = let f = initialiser expression x around t l to r in
      let G : ℕ → Reached → Filled = λ n z. record { effects = f.effects ++ (elements more less n z).effects; after = (elements more less n z).after } in
      ap (λ (n : ℕ). elements (x ∷ more) n to r) (one_less left less ne hl) ∙ ap (λ (z : Reached). G (to + size) z) (sym hq) ∙ ap (λ (n : ℕ). G n q) (sym hf)

  pub elements_put : (all : List Init) (x : Init) (more : List Init) (left less to far : ℕ) (r q : Reached) (d : ℕ) (s0 s1 : Put) → all ≡ x ∷ more → (left ≡ 0 → ⊥) → less ≡ left - 1 → far ≡ to + size
      → q ≡ (initialiser expression x around t l to r).after → s1 ≡ went_effects (initialiser expression x around t l to r).effects d s0
      → went_effects (elements_filled (map (initialiser expression) more) around t place size less l far q).effects d s1 ≡ went_effects (elements_filled (map (initialiser expression) all) around t place size left l to r).effects d s0
  unfolding elements
  elements_put all x more left less to far r q d s0 s1 is ne hl hf hq h =
      ap (λ (z : Put). went_effects (elements more less far q).effects d z) h
      ∙ sym (ap (λ (z : List Init). went_effects (elements z left to r).effects d s0) is ∙ ap (λ (z : Filled). went_effects z.effects d s0) (one_more x more left less to far r q ne hl hf hq)
      ∙ effects_on (initialiser expression x around t l to r).effects (elements more less far q).effects d s0)

  pub elements_go : (all : List Init) (x : Init) (more : List Init) (left less to far : ℕ) (r q : Reached) → all ≡ x ∷ more → (left ≡ 0 → ⊥) → less ≡ left - 1 → far ≡ to + size
      → q ≡ (initialiser expression x around t l to r).after
      → (elements_filled (map (initialiser expression) more) around t place size less l far q).after ≡ (elements_filled (map (initialiser expression) all) around t place size left l to r).after
  unfolding elements
  elements_go all x more left less to far r q is ne hl hf hq =
      sym (ap (λ (z : List Init). (elements z left to r).after) is ∙ ap (λ (z : Filled). z.after) (one_more x more left less to far r q ne hl hf hq))

  -- where no room is left, the rest of the list is left out
  pub elements_full : (all : List Init) (x : Init) (more : List Init) (left to : ℕ) (r : Reached) (d : ℕ) (s e : Put) → all ≡ x ∷ more → left ≡ 0
      → went_effects (elements_filled (map (initialiser expression) all) around t place size left l to r).effects d s ≡ e → s ≡ e
  unfolding elements
  elements_full all x more left to r d s e is hl h = sym (ap (λ (z : List Init). went_effects (elements z left to r).effects d s) is ∙ ap (λ (n : ℕ). went_effects (elements (x ∷ more) n to r).effects d s) hl) ∙ h

  pub elements_full_go : (all : List Init) (x : Init) (more : List Init) (left to : ℕ) (r e : Reached) → all ≡ x ∷ more → left ≡ 0
      → (elements_filled (map (initialiser expression) all) around t place size left l to r).after ≡ e → r ≡ e
  unfolding elements
  elements_full_go all x more left to r e is hl h = sym (ap (λ (z : List Init). (elements z left to r).after) is ∙ ap (λ (n : ℕ). (elements (x ∷ more) n to r).after) hl) ∙ h

  -- behind the list
  pub elements_end : (all : List Init) (left to : ℕ) (r : Reached) (d : ℕ) (s s1 e : Put) → all ≡ [] → s1 ≡ went_effects (zeros around.structs place (Array t left) l to) d s
      → went_effects (elements_filled (map (initialiser expression) all) around t place size left l to r).effects d s ≡ e → s1 ≡ e
  unfolding elements
  elements_end all left to r d s s1 e is h g = h ∙ sym (ap (λ (z : List Init). went_effects (elements z left to r).effects d s) is) ∙ g

  pub elements_end_go : (all : List Init) (left to : ℕ) (r e : Reached) → all ≡ [] → (elements_filled (map (initialiser expression) all) around t place size left l to r).after ≡ e → r ≡ e
  unfolding elements
  elements_end_go all left to r e is g = sym (ap (λ (z : List Init). (elements z left to r).after) is) ∙ g

-- ---- members

module _ (around : Around) (table : Types) (place : Place) (l : Lvalue) (offset : ℕ) where
  inner : List Init → List Part → Reached → Filled
  inner all parts r = members_filled (map (initialiser expression) all) around place (part_types table parts) (part_offsets parts) l offset r

  pub members_put : (all : List Init) (x : Init) (more : List Init) (parts : List Part) (p : Part) (ps : List Part) (to : ℕ) (r q : Reached) (d : ℕ) (s0 s1 : Put) → all ≡ x ∷ more → parts ≡ p ∷ ps → to ≡ offset + p.offset
      → q ≡ (initialiser expression x around (type_at table p.kind) l to r).after → s1 ≡ went_effects (initialiser expression x around (type_at table p.kind) l to r).effects d s0
      → went_effects (members_filled (map (initialiser expression) more) around place (part_types table ps) (part_offsets ps) l offset q).effects d s1
      ≡ went_effects (members_filled (map (initialiser expression) all) around place (part_types table parts) (part_offsets parts) l offset r).effects d s0
  unfolding inner
  members_put all x more parts p ps to r q d s0 s1 is ip ht hq h = let f : ℕ → Filled = λ n. initialiser expression x around (type_at table p.kind) l n r in
      ap (λ (z : Put). went_effects (inner more ps q).effects d z) h ∙ ap (λ (z : Reached). went_effects (inner more ps z).effects d (went_effects (f to).effects d s0)) hq
      ∙ ap (λ (n : ℕ). went_effects (inner more ps (f n).after).effects d (went_effects (f n).effects d s0)) ht
      ∙ sym (ap (λ (z : List Init). went_effects (inner z parts r).effects d s0) is ∙ ap (λ (z : List Part). went_effects (inner (x ∷ more) z r).effects d s0) ip
      ∙ effects_on (f (offset + p.offset)).effects (inner more ps (f (offset + p.offset)).after).effects d s0)

  pub members_go : (all : List Init) (x : Init) (more : List Init) (parts : List Part) (p : Part) (ps : List Part) (to : ℕ) (r q : Reached) → all ≡ x ∷ more → parts ≡ p ∷ ps → to ≡ offset + p.offset
      → q ≡ (initialiser expression x around (type_at table p.kind) l to r).after
      → (members_filled (map (initialiser expression) more) around place (part_types table ps) (part_offsets ps) l offset q).after
      ≡ (members_filled (map (initialiser expression) all) around place (part_types table parts) (part_offsets parts) l offset r).after
  unfolding inner
  members_go all x more parts p ps to r q is ip ht hq = let f : ℕ → Filled = λ n. initialiser expression x around (type_at table p.kind) l n r in
      ap (λ (z : Reached). (inner more ps z).after) hq ∙ ap (λ (n : ℕ). (inner more ps (f n).after).after) ht
      ∙ sym (ap (λ (z : List Init). (inner z parts r).after) is ∙ ap (λ (z : List Part). (inner (x ∷ more) z r).after) ip)

  pub members_full : (all : List Init) (x : Init) (more : List Init) (parts : List Part) (r : Reached) (d : ℕ) (s e : Put) → all ≡ x ∷ more → parts ≡ []
      → went_effects (members_filled (map (initialiser expression) all) around place (part_types table parts) (part_offsets parts) l offset r).effects d s ≡ e → s ≡ e
  unfolding inner
  members_full all x more parts r d s e is ip h = sym (ap (λ (z : List Init). went_effects (inner z parts r).effects d s) is ∙ ap (λ (z : List Part). went_effects (inner (x ∷ more) z r).effects d s) ip) ∙ h

  pub members_full_go : (all : List Init) (x : Init) (more : List Init) (parts : List Part) (r e : Reached) → all ≡ x ∷ more → parts ≡ []
      → (members_filled (map (initialiser expression) all) around place (part_types table parts) (part_offsets parts) l offset r).after ≡ e → r ≡ e
  unfolding inner
  members_full_go all x more parts r e is ip h = sym (ap (λ (z : List Init). (inner z parts r).after) is ∙ ap (λ (z : List Part). (inner (x ∷ more) z r).after) ip) ∙ h

  pub members_end : (all : List Init) (parts : List Part) (r : Reached) (d : ℕ) (s s1 e : Put) → all ≡ [] → s1 ≡ went_effects (member_zeros around.structs place (part_types table parts) (part_offsets parts) l offset) d s
      → went_effects (members_filled (map (initialiser expression) all) around place (part_types table parts) (part_offsets parts) l offset r).effects d s ≡ e → s1 ≡ e
  unfolding inner
  members_end all parts r d s s1 e is h g = h ∙ sym (ap (λ (z : List Init). went_effects (inner z parts r).effects d s) is) ∙ g

  pub members_end_go : (all : List Init) (parts : List Part) (r e : Reached) → all ≡ [] → (members_filled (map (initialiser expression) all) around place (part_types table parts) (part_offsets parts) l offset r).after ≡ e → r ≡ e
  unfolding inner
  members_end_go all parts r e is g = sym (ap (λ (z : List Init). (inner z parts r).after) is) ∙ g
