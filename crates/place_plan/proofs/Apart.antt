-- Variables of a frame stand at multiples of their alignments, none over another, and within the frame.
use Rattle.std.proofs.Common.{◌≡◌, ℕ, zero, suc, ◌+◌, ◌-◌, ◌/◌, ◌%◌, ◌≤◌, ◌<◌, List, [], ◌∷◌, ap, subst, arith}
use Rattle.std.proofs.Math.Nat.{mul-mod_left}
use Rattle.std.specs.Prelude.{Some, slice_get}
use Rattle.c_types.specs.declared.layout.Layout.{Layout}
use Rattle.c_types.specs.Types.{CType, StructType}
use Rattle.c_types.specs.Layouts.{next_multiple, layout_of}
use Rattle.place_plan.specs.declared.frames.Free.{Free}
use Rattle.place_plan.specs.declared.plans.Spot.TheVariants.{Private, Frame}
use Rattle.place_plan.specs.Frames.{Variable, values_of, spot_at, free_after, spots_from, free_after_all}
use Rattle.place_plan.proofs.Ends.{next_enough, after_grows, ends_grow}

pub next_is_multiple : (n align : ℕ) → next_multiple n align % align ≡ 0
next_is_multiple n align = mul-mod_left ((n + (align - 1)) / align) align

-- a variable of this layout stands at o, from what is free on, and ends by `end`
pub record Stands (layout : Layout) (low o end : ℕ) : Type 0 where
  pub above : low ≤ o
  pub aligned : o % layout.align ≡ 0
  pub below : o + layout.size ≤ end

head_stands : (n : ℕ) (layout : Layout) (free : Free) (o : ℕ) → 1 ≤ layout.align → spot_at n layout free ≡ Frame o → Stands layout free.byte o (free_after n layout free).byte
head_stands zero layout free o some h = let e : next_multiple free.byte layout.align ≡ o = cc in
    subst (λ p. Stands layout free.byte p (next_multiple free.byte layout.align + layout.size)) e record { above = next_enough free.byte layout.align some; aligned = next_is_multiple free.byte layout.align; below = omega arith }
head_stands (suc n) layout free o some h = cc

module _ (structs : List StructType) (some : (type : CType) → 1 ≤ (layout_of structs type).align) where
  abbrev after : Free → Variable → Free
  after free v = free_after (values_of v.taken v.type) (layout_of structs v.type) free

  pub stands : (free : Free) (vs : List Variable) (i o : ℕ) (v : Variable) → slice_get vs i ≡ Some v → slice_get (spots_from structs free vs) i ≡ Some (Frame o)
      → Stands (layout_of structs v.type) free.byte o (free_after_all structs free vs).byte
  stands free [] i o v h k = cc
  stands free (w ∷ ws) zero o v h k = let e : w ≡ v = cc in let f : spot_at (values_of w.taken w.type) (layout_of structs w.type) free ≡ Frame o = cc in
      let s = head_stands (values_of w.taken w.type) (layout_of structs w.type) free o (some w.type) f in let g = ends_grow structs some (after free w) ws in
      subst (λ u. Stands (layout_of structs u.type) free.byte o (free_after_all structs (after free w) ws).byte) e record { above = s.above; aligned = s.aligned; below = omega (arith, s.below, g) }
  stands free (w ∷ ws) (suc i) o v h k = let s = stands (after free w) ws i o v h k in let g = after_grows (values_of w.taken w.type) (layout_of structs w.type) free (some w.type) in
      record { above = omega (arith, s.above, g); aligned = s.aligned; below = s.below }

  pub apart : (free : Free) (vs : List Variable) (i j o p : ℕ) (v w : Variable) → i < j → slice_get vs i ≡ Some v → slice_get vs j ≡ Some w
      → slice_get (spots_from structs free vs) i ≡ Some (Frame o) → slice_get (spots_from structs free vs) j ≡ Some (Frame p) → o + (layout_of structs v.type).size ≤ p
  apart free [] i j o p v w lt h k m n = cc
  apart free (x ∷ xs) i zero o p v w lt h k m n = omega arith
  apart free (x ∷ xs) zero (suc j) o p v w lt h k m n = let e : x ≡ v = cc in let f : spot_at (values_of x.taken x.type) (layout_of structs x.type) free ≡ Frame o = cc in
      let s = head_stands (values_of x.taken x.type) (layout_of structs x.type) free o (some x.type) f in let t = stands (after free x) xs j p w k n in
      subst (λ u. o + (layout_of structs u.type).size ≤ p) e (omega (arith, s.below, t.above))
  apart free (x ∷ xs) (suc i) (suc j) o p v w lt h k m n = apart (after free x) xs i j o p v w (omega arith) h k m n

  -- ---- private values

  abbrev count : Variable → ℕ
  count v = values_of v.taken v.type

  head_private : (n : ℕ) (layout : Layout) (free : Free) (x : ℕ) → spot_at n layout free ≡ Private x → (free.value ≡ x) × ((free_after n layout free).value ≡ x + n)
  head_private zero layout free x h = cc
  head_private (suc n) layout free x h = let e : free.value ≡ x = cc in (e, ap (λ y. y + suc n) e)

  value_grows : (n : ℕ) (layout : Layout) (free : Free) → free.value ≤ (free_after n layout free).value
  value_grows zero layout free = omega arith
  value_grows (suc n) layout free = omega arith

  private_above : (free : Free) (vs : List Variable) (i x : ℕ) → slice_get (spots_from structs free vs) i ≡ Some (Private x) → free.value ≤ x
  private_above free [] i x h = cc
  private_above free (w ∷ ws) zero x h = let f : spot_at (count w) (layout_of structs w.type) free ≡ Private x = cc in omega (arith, (head_private (count w) (layout_of structs w.type) free x f).0)
  private_above free (w ∷ ws) (suc i) x h = omega (arith, value_grows (count w) (layout_of structs w.type) free, private_above (after free w) ws i x h)

  pub privates_apart : (free : Free) (vs : List Variable) (i j x y : ℕ) (v : Variable) → i < j → slice_get vs i ≡ Some v
      → slice_get (spots_from structs free vs) i ≡ Some (Private x) → slice_get (spots_from structs free vs) j ≡ Some (Private y) → x + count v ≤ y
  privates_apart free [] i j x y v lt h m n = cc
  privates_apart free (w ∷ ws) i zero x y v lt h m n = omega arith
  privates_apart free (w ∷ ws) zero (suc j) x y v lt h m n = let e : w ≡ v = cc in let f : spot_at (count w) (layout_of structs w.type) free ≡ Private x = cc in
      let s = head_private (count w) (layout_of structs w.type) free x f in let t = private_above (after free w) ws j y n in
      subst (λ u. x + count u ≤ y) e (omega (arith, s.1, t))
  privates_apart free (w ∷ ws) (suc i) (suc j) x y v lt h m n = privates_apart (after free w) ws i j x y v (omega arith) h m n
