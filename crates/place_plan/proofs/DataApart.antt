-- The globals that a source defines stand at multiples of their alignments, none over another.
use Rattle.std.proofs.Common.{◌≡◌, ℕ, zero, suc, ◌+◌, ◌≤◌, ◌<◌, Bool, true, false, List, [], ◌∷◌, subst, arith}
use Rattle.std.specs.Prelude.{Some, slice_get}
use Rattle.c_types.specs.declared.layout.Layout.{Layout}
use Rattle.c_types.specs.Types.{CType, StructType}
use Rattle.c_types.specs.Layouts.{next_multiple, layout_of}
use Rattle.place_plan.specs.Data.{Global, offset_at, end_after, offsets_from, globals_end}
use Rattle.place_plan.proofs.Apart.{Stands, next_is_multiple}
use Rattle.place_plan.proofs.Ends.{next_enough, end_grows, data_grows}

head_stands : (defined : Bool) (layout : Layout) (free o : ℕ) → 1 ≤ layout.align → defined ≡ true → offset_at defined layout free ≡ o → Stands layout free o (end_after defined layout free)
head_stands true layout free o some d h = subst (λ p. Stands layout free p (next_multiple free layout.align + layout.size)) h
    record { above = next_enough free layout.align some; aligned = next_is_multiple free layout.align; below = omega arith }
head_stands false layout free o some d h = cc

module _ (structs : List StructType) (some : (type : CType) → 1 ≤ (layout_of structs type).align) where
  abbrev after : ℕ → Global → ℕ
  after free g = end_after g.defined (layout_of structs g.type) free

  pub stands : (free : ℕ) (gs : List Global) (i o : ℕ) (g : Global) → slice_get gs i ≡ Some g → g.defined ≡ true → slice_get (offsets_from structs free gs) i ≡ Some o
      → Stands (layout_of structs g.type) free o (globals_end structs free gs)
  stands free [] i o g h d k = cc
  stands free (w ∷ ws) zero o g h d k = let e : w ≡ g = cc in let f : offset_at w.defined (layout_of structs w.type) free ≡ o = cc in let b : w.defined ≡ true = cc in
      let s = head_stands w.defined (layout_of structs w.type) free o (some w.type) b f in let t = data_grows structs some (after free w) ws in
      subst (λ u. Stands (layout_of structs u.type) free o (globals_end structs (after free w) ws)) e record { above = s.above; aligned = s.aligned; below = omega (arith, s.below, t) }
  stands free (w ∷ ws) (suc i) o g h d k = let s = stands (after free w) ws i o g h d k in let t = end_grows w.defined (layout_of structs w.type) free (some w.type) in
      record { above = omega (arith, s.above, t); aligned = s.aligned; below = s.below }

  pub apart : (free : ℕ) (gs : List Global) (i j o p : ℕ) (g h : Global) → i < j → slice_get gs i ≡ Some g → slice_get gs j ≡ Some h → g.defined ≡ true → h.defined ≡ true
      → slice_get (offsets_from structs free gs) i ≡ Some o → slice_get (offsets_from structs free gs) j ≡ Some p → o + (layout_of structs g.type).size ≤ p
  apart free [] i j o p g h lt a b d e m n = cc
  apart free (x ∷ xs) i zero o p g h lt a b d e m n = omega arith
  apart free (x ∷ xs) zero (suc j) o p g h lt a b d e m n = let q : x ≡ g = cc in let f : offset_at x.defined (layout_of structs x.type) free ≡ o = cc in let c : x.defined ≡ true = cc in
      let s = head_stands x.defined (layout_of structs x.type) free o (some x.type) c f in let t = stands (after free x) xs j p h b e n in
      subst (λ u. o + (layout_of structs u.type).size ≤ p) q (omega (arith, s.below, t.above))
  apart free (x ∷ xs) (suc i) (suc j) o p g h lt a b d e m n = apart (after free x) xs i j o p g h (omega arith) a b d e m n
