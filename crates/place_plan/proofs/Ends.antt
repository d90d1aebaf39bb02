-- What is free never sinks.
use Rattle.std.proofs.Common.{ℕ, zero, suc, ◌+◌, ◌-◌, ◌≤◌, ◌<◌, List, [], ◌∷◌, Bool, true, false, arith}
use Rattle.std.proofs.Math.Nat.{lt-div-mul-add}
use Rattle.c_types.specs.declared.layout.Layout.{Layout}
use Rattle.c_types.specs.Types.{CType, StructType}
use Rattle.c_types.specs.Layouts.{next_multiple, layout_of}
use Rattle.place_plan.specs.declared.frames.Free.{Free}
use Rattle.place_plan.specs.Data.{Global, end_after, globals_end}
use Rattle.place_plan.specs.Frames.{Variable, values_of, free_after, free_after_all}

pub next_enough : (n align : ℕ) → 1 ≤ align → n ≤ next_multiple n align
next_enough n align some = let positive : 0 < align = some in omega (arith, lt-div-mul-add {a = n + (align - 1)} {b = align} positive)

pub after_grows : (values : ℕ) (layout : Layout) (free : Free) → 1 ≤ layout.align → free.byte ≤ (free_after values layout free).byte
after_grows zero layout free some = omega (arith, next_enough free.byte layout.align some)
after_grows (suc n) layout free some = omega arith

pub ends_grow : (structs : List StructType) → ((type : CType) → 1 ≤ (layout_of structs type).align) → (free : Free) (vs : List Variable) → free.byte ≤ (free_after_all structs free vs).byte
ends_grow structs some free [] = omega arith
ends_grow structs some free (v ∷ vs) = omega (arith, after_grows (values_of v.taken v.type) (layout_of structs v.type) free (some v.type), ends_grow structs some (free_after (values_of v.taken v.type) (layout_of structs v.type) free) vs)

-- what is free after a variable that comes next is no more than what is free in the end
pub next_ends : (structs : List StructType) → ((type : CType) → 1 ≤ (layout_of structs type).align) → (free : Free) (v : Variable) (vs : List Variable)
    → (free_after (values_of v.taken v.type) (layout_of structs v.type) free).byte ≤ (free_after_all structs free (v ∷ vs)).byte
next_ends structs some free v vs = ends_grow structs some (free_after (values_of v.taken v.type) (layout_of structs v.type) free) vs

pub end_grows : (defined : Bool) (layout : Layout) (free : ℕ) → 1 ≤ layout.align → free ≤ end_after defined layout free
end_grows true layout free some = omega (arith, next_enough free layout.align some)
end_grows false layout free some = omega arith

-- the same of the data of a source
pub data_grows : (structs : List StructType) → ((type : CType) → 1 ≤ (layout_of structs type).align) → (free : ℕ) (gs : List Global) → free ≤ globals_end structs free gs
data_grows structs some free [] = omega arith
data_grows structs some free (g ∷ gs) = omega (arith, end_grows g.defined (layout_of structs g.type) free (some g.type), data_grows structs some (end_after g.defined (layout_of structs g.type) free) gs)

pub next_data : (structs : List StructType) → ((type : CType) → 1 ≤ (layout_of structs type).align) → (free : ℕ) (g : Global) (gs : List Global)
    → end_after g.defined (layout_of structs g.type) free ≤ globals_end structs free (g ∷ gs)
next_data structs some free g gs = data_grows structs some (end_after g.defined (layout_of structs g.type) free) gs
