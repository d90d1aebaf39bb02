-- The number of a type grows by its layers.
use Rattle.std.proofs.Common.{◌≡◌, ℕ, zero, suc, ◌+◌, ◌≤◌, List, [], ◌∷◌, length, get_or, drop, refl, ap, sym, ◌∙◌, subst, arith, Some, slice_get}
use Rattle.std.proofs.lemmas.List.{drop_more, drop_all}
use Rattle.std.proofs.lemmas.Option.{slice_get_within}
use Rattle.c_types.specs.declared.shape.TypeId.{TypeId}
use Rattle.c_types.specs.declared.shape.Shape.{Shape}
use Rattle.c_types.specs.Types.{CType, Types, StructType, type_at, built, structs_of}
use Rattle.c_types.specs.Layouts.{CanBuild, Extends}
use Rattle.c_check_rules.specs.declared.kinds.Core.{Core}
use Rattle.c_check_rules.specs.declared.kinds.Core.TheVariants as c
use Rattle.c_check_rules.specs.declared.kinds.Layer.{Layer}
use Rattle.c_check_rules.specs.declared.kinds.Layer.TheVariants as l
use Rattle.c_check_rules.specs.Kinds.{core_kind, layered, shaped}
use Rattle.c_check.specs.Standing.{layers_of}
use Rattle.c_check.specs.Numbering.{core_shape, layer_shape, CanBeBuilt, KnowsMembers, Grows, Numbers}
use Rattle.c_check.proofs.TableGrowth.{grows-then, numbers-still, can-stand, structs-still}

pub layers-length : (core : Core) (layers : List Layer) → layers_of (shaped core layers) ≡ length layers
layers-length c.Void [] = refl
layers-length (c.Int kind) [] = refl
layers-length (c.Struct number) [] = refl
layers-length core (l.Pointer ∷ more) = omega (arith, layers-length core more)
layers-length core (l.Array count ∷ more) = omega (arith, layers-length core more)

-- ---- parts of a type that can be built

part-built : (structs : List StructType) (begun : ℕ) (layer : Layer) (inner : CType) → CanBeBuilt structs begun (layered layer inner) → CanBeBuilt structs begun inner
part-built structs begun l.Pointer inner h = h
part-built structs begun (l.Array count) inner h = h.0

pub parts-built : (structs : List StructType) (begun : ℕ) (core : Core) (i : ℕ) (layers : List Layer) → CanBeBuilt structs begun (shaped core layers) → CanBeBuilt structs begun (shaped core (drop i layers))
parts-built structs begun core zero layers h = h
parts-built structs begun core (suc i) [] h = h
parts-built structs begun core (suc i) (layer ∷ more) h = parts-built structs begun core i more (part-built structs begun layer (shaped core more) h)

core-built : (structs : List StructType) (begun : ℕ) (core : Core) (layers : List Layer) → CanBeBuilt structs begun (shaped core layers) → CanBeBuilt structs begun (core_kind core)
core-built structs begun core [] h = h
core-built structs begun core (layer ∷ more) h = core-built structs begun core more (part-built structs begun layer (shaped core more) h)

core-can-be : (table : Types) (core : Core) → CanBeBuilt (structs_of table) table.begun (core_kind core) → CanBuild table (core_shape core)
core-can-be table c.Void h = tt
core-can-be table (c.Int kind) h = tt
core-can-be table (c.Struct number) h = h

pub core-can : (table : Types) (core : Core) (layers : List Layer) (kind : CType) → kind ≡ shaped core layers → CanBeBuilt (structs_of table) table.begun kind → CanBuild table (core_shape core)
core-can table core layers kind is h = core-can-be table core (core-built (structs_of table) table.begun core layers (subst (CanBeBuilt (structs_of table) table.begun) is h))

layer-can-be : (table : Types) (layer : Layer) (inner : CType) (t : TypeId) → Numbers table t inner → CanBeBuilt (structs_of table) table.begun (layered layer inner) → CanBuild table (layer_shape layer t)
layer-can-be table l.Pointer inner t n h = n.0
layer-can-be table (l.Array count) inner t n h = (can-stand table t inner n h.1, h.2, h.3)

-- ---- numbers of shapes

built-core : (at : TypeId → CType) (core : Core) → built at (core_shape core) ≡ core_kind core
built-core at c.Void = refl
built-core at (c.Int kind) = refl
built-core at (c.Struct number) = refl

built-layer : (at : TypeId → CType) (layer : Layer) (t : TypeId) → built at (layer_shape layer t) ≡ layered layer (at t)
built-layer at l.Pointer t = refl
built-layer at (l.Array count) t = refl

-- what is known once a shape has a number
pub record Interned (old new : Types) (shape : Shape) (t : TypeId) : Type 0 where
  pub found : slice_get new.shapes t.0 ≡ Some shape
  pub means : type_at new t ≡ built (type_at new) shape
  pub few : length new.shapes ≤ length old.shapes + 1
  pub grows : Grows old new

pub interned : (old new : Types) (shape other : Shape) (t : TypeId) → shape ≡ other → slice_get new.shapes t.0 ≡ Some shape → type_at new t ≡ built (type_at new) shape → length new.shapes ≤ length old.shapes + 1
    → Extends old new → (new.begun ≡ old.begun) × (new.ended ≡ old.ended) → Interned old new other t
interned old new shape other t is found means few extends same =
    subst (λ (s : Shape). Interned old new s t) is (record { found = found; means = means; few = few; grows = record { extends = extends; begun = same.0; ended = same.1 } })

-- ---- the loop over layers, from the innermost on

pub record Layered (start table : Types) (t : TypeId) (core : Core) (layers : List Layer) (i : ℕ) : Type 0 where
  pub grows : Grows start table
  pub number : Numbers table t (shaped core (drop i layers))
  pub few : length table.shapes + i ≤ length start.shapes + (length layers + 1)
  pub inside : i ≤ length layers

pub layered-core : (start table : Types) (t : TypeId) (core : Core) (layers : List Layer) → Interned start table (core_shape core) t → Layered start table t core layers (length layers)
layered-core start table t core layers h = record {
  grows = h.grows;
  number = (
    slice_get_within table.shapes t.0 (core_shape core) h.found,
    h.means ∙ built-core (type_at table) core ∙ ap (shaped core) (sym (drop_all (length layers) layers (omega arith))),
  );
  few = omega (arith, h.few);
  inside = omega arith;
}

pub layer-can : (start table : Types) (t : TypeId) (core : Core) (layers : List Layer) (kind : CType) (i j : ℕ) (d : Layer) (shape : Shape) → shape ≡ layer_shape (get_or layers i d) t
    → Layered start table t core layers j → j ≡ i + 1 → KnowsMembers start → kind ≡ shaped core layers → CanBeBuilt (structs_of start) start.begun kind → CanBuild table shape
layer-can start table t core layers kind i j d shape made h next known is can =
    let layer = get_or layers i d in
    let inside : j ≤ length layers = h.inside in
    let here : drop i layers ≡ layer ∷ drop j layers = drop_more layers i d (omega arith) ∙ ap (λ (n : ℕ). layer ∷ drop n layers) (sym next) in
    let part : CanBeBuilt (structs_of start) start.begun (layered layer (shaped core (drop j layers))) =
    subst (λ (xs : List Layer). CanBeBuilt (structs_of start) start.begun (shaped core xs)) here
    (parts-built (structs_of start) start.begun core i layers (subst (CanBeBuilt (structs_of start) start.begun) is can)) in
    subst (CanBuild table) (sym made)
    (layer-can-be table layer (shaped core (drop j layers)) t h.number
    (subst (λ (b : ℕ). CanBeBuilt (structs_of table) b (layered layer (shaped core (drop j layers)))) (sym h.grows.begun)
    (subst (λ (ss : List StructType). CanBeBuilt ss start.begun (layered layer (shaped core (drop j layers)))) (sym (structs-still start table h.grows known)) part)))

pub layered-more : (start old new : Types) (t u : TypeId) (core : Core) (layers : List Layer) (i j : ℕ) (d : Layer) → Layered start old t core layers j → j ≡ i + 1
    → Interned old new (layer_shape (get_or layers i d) t) u → Layered start new u core layers i
layered-more start old new t u core layers i j d h next one =
    let layer = get_or layers i d in
    let inside : j ≤ length layers = h.inside in
    let here : drop i layers ≡ layer ∷ drop j layers = drop_more layers i d (omega arith) ∙ ap (λ (n : ℕ). layer ∷ drop n layers) (sym next) in
    let inner = numbers-still old new one.grows.extends t (shaped core (drop j layers)) h.number in
    record {
      grows = grows-then start old new h.grows one.grows;
      number = (
        slice_get_within new.shapes u.0 (layer_shape layer t) one.found,
        one.means ∙ (built-layer (type_at new) layer t ∙ (ap (layered layer) inner.1 ∙ ap (shaped core) (sym here))),
      );
      few = omega (arith, h.few, one.few);
      inside = omega arith;
    }
