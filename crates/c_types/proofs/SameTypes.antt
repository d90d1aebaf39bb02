-- Two numbers of one type are one.
use Rattle.std.proofs.Common.{◌≡◌, ℕ, ◌<◌, List, get_or, refl, ap, sym, ◌∙◌, subst, arith, Option, Some, slice_get}
use Rattle.std.proofs.lemmas.Option.{slice_get-get_or}
use Rattle.mx_base.specs.declared.numbers.IntKind.{IntKind}
use Rattle.c_types.specs.declared.shape.TypeId.{TypeId}
use Rattle.c_types.specs.declared.shape.Shape.{Shape}
use Rattle.c_types.specs.declared.shape.Shape.TheVariants as s
use Rattle.c_types.specs.declared.layout.Layout.{Layout}
use Rattle.c_types.specs.declared.layout.StructLayout.{StructLayout}
use Rattle.c_types.specs.Types.{CType, Void, Int, Pointer, Array, Struct, Types, built, type_at, IsIn}
use Rattle.c_types.specs.Sound.{NamesBelow, IsSound}
use Rattle.c_types.proofs.Reading.{type-of-shape}

-- the shape that a type was built of
module _ (at : TypeId → CType) where
  of-void : (x : Shape) → built at x ≡ Void → x ≡ s.Void
  of-void s.Void h = refl
  of-void (s.Int kind) h = cc
  of-void (s.Pointer target) h = cc
  of-void (s.Array element count) h = cc
  of-void (s.Struct number) h = cc

  of-int : (x : Shape) (kind : IntKind) → built at x ≡ Int kind → x ≡ s.Int kind
  of-int s.Void kind h = cc
  of-int (s.Int other) kind h = cc
  of-int (s.Pointer target) kind h = cc
  of-int (s.Array element count) kind h = cc
  of-int (s.Struct number) kind h = cc

  of-struct : (x : Shape) (number : ℕ) → built at x ≡ Struct number → x ≡ s.Struct number
  of-struct s.Void number h = cc
  of-struct (s.Int kind) number h = cc
  of-struct (s.Pointer target) number h = cc
  of-struct (s.Array element count) number h = cc
  of-struct (s.Struct other) number h = cc

  of-pointer : (x : Shape) (c : CType) → built at x ≡ Pointer c → (target : TypeId) × (x ≡ s.Pointer target) × (at target ≡ c)
  of-pointer s.Void c h = cc
  of-pointer (s.Int kind) c h = cc
  of-pointer (s.Pointer target) c h = (target, refl, cc)
  of-pointer (s.Array element count) c h = cc
  of-pointer (s.Struct number) c h = cc

  of-array : (x : Shape) (c : CType) (count : ℕ) → built at x ≡ Array c count → (element : TypeId) × (x ≡ s.Array element count) × (at element ≡ c)
  of-array s.Void c count h = cc
  of-array (s.Int kind) c count h = cc
  of-array (s.Pointer target) c count h = cc
  of-array (s.Array element other) c count h = (element, cc, cc)
  of-array (s.Struct number) c count h = cc

module _ (table : Types) (kept : List Layout) (structs : List (Option StructLayout)) (sound : IsSound table kept structs) where
  shape-of : TypeId → Shape
  shape-of t = get_or table.shapes t.0 s.Void

  at-place : (t : TypeId) → IsIn table t → slice_get table.shapes t.0 ≡ Some (shape-of t)
  unfolding shape-of
  at-place t h = slice_get-get_or table.shapes t.0 s.Void h

  one-shape : (a b : TypeId) (x : Shape) → IsIn table a → IsIn table b → shape-of a ≡ x → shape-of b ≡ x → a ≡ b
  one-shape a b x in-a in-b is-a is-b = ap (λ n. let t : TypeId = record { 0 = n } in t) (sound.differ a.0 b.0 x (at-place a in-a ∙ ap Some is-a) (at-place b in-b ∙ ap Some is-b))

  built-of : (t : TypeId) (c : CType) → IsIn table t → type_at table t ≡ c → built (type_at table) (shape-of t) ≡ c
  built-of t c inside is = sym (type-of-shape table kept structs t (shape-of t) sound (at-place t inside)) ∙ is

  names-of : (t : TypeId) (x : Shape) → IsIn table t → shape-of t ≡ x → NamesBelow table.begun t.0 x
  unfolding shape-of
  names-of t x inside is = subst (NamesBelow table.begun t.0) is (sound.names t.0 s.Void inside)

  pub one-number : (c : CType) (a b : TypeId) → IsIn table a → IsIn table b → type_at table a ≡ c → type_at table b ≡ c → a ≡ b
  one-number Void a b in-a in-b is-a is-b =
      one-shape a b s.Void in-a in-b (of-void (type_at table) (shape-of a) (built-of a Void in-a is-a)) (of-void (type_at table) (shape-of b) (built-of b Void in-b is-b))
  one-number (Int kind) a b in-a in-b is-a is-b =
      one-shape a b (s.Int kind) in-a in-b (of-int (type_at table) (shape-of a) kind (built-of a (Int kind) in-a is-a)) (of-int (type_at table) (shape-of b) kind (built-of b (Int kind) in-b is-b))
  one-number (Struct number) a b in-a in-b is-a is-b =
      one-shape a b (s.Struct number) in-a in-b (of-struct (type_at table) (shape-of a) number (built-of a (Struct number) in-a is-a)) (of-struct (type_at table) (shape-of b) number (built-of b (Struct number) in-b is-b))
  one-number (Pointer c) a b in-a in-b is-a is-b =
      let p = of-pointer (type_at table) (shape-of a) c (built-of a (Pointer c) in-a is-a) in
      let q = of-pointer (type_at table) (shape-of b) c (built-of b (Pointer c) in-b is-b) in
      let below-a : p.0.0 < a.0 = names-of a (s.Pointer p.0) in-a p.1 in
      let below-b : q.0.0 < b.0 = names-of b (s.Pointer q.0) in-b q.1 in
      let inside-p : IsIn table p.0 = omega arith in
      let inside-q : IsIn table q.0 = omega arith in
      one-shape a b (s.Pointer p.0) in-a in-b p.1 (q.1 ∙ ap s.Pointer (sym (one-number c p.0 q.0 inside-p inside-q p.2 q.2)))
  one-number (Array c count) a b in-a in-b is-a is-b =
      let p = of-array (type_at table) (shape-of a) c count (built-of a (Array c count) in-a is-a) in
      let q = of-array (type_at table) (shape-of b) c count (built-of b (Array c count) in-b is-b) in
      let below-a : p.0.0 < a.0 = names-of a (s.Array p.0 count) in-a p.1 in
      let below-b : q.0.0 < b.0 = names-of b (s.Array q.0 count) in-b q.1 in
      let inside-p : IsIn table p.0 = omega arith in
      let inside-q : IsIn table q.0 = omega arith in
      one-shape a b (s.Array p.0 count) in-a in-b p.1 (q.1 ∙ ap (λ t. s.Array t count) (sym (one-number c p.0 q.0 inside-p inside-q p.2 q.2)))
