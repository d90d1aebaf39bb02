-- The data of a plan: its globals stand apart, and its literals behind them.
use Rattle.std.proofs.Common.{◌≡◌, ℕ, zero, suc, ◌+◌, ◌≤◌, ◌<◌, true, refl, sym, ap, ◌∙◌, List, [], ◌∷◌, ◌++◌, map, length, length-append, drop, arith}
use Rattle.std.specs.Prelude.{Some, slice_get}
use Rattle.std.proofs.Math.Seq.{drop-append_seam}
use Rattle.c_tree.specs.declared.tree.Tree.{Tree}
use Rattle.c_types.specs.Types.{StructType, CType}
use Rattle.c_types.specs.Layouts.{layout_of}
use Rattle.c_check_rules.specs.declared.names.Variable.{Variable as Known}
use Rattle.c_check.specs.Accepted.{IsAccepted, after}
use Rattle.c_check.specs.Standing.{structs_seen, CanBeNumbered}
use Rattle.place_plan.specs.Data.{end_after, offsets_from}
use Rattle.place_plan.specs.Source.{global_known, plan_of, globals_size, image_size}
use Rattle.place_plan.proofs.Apart.{Stands}
use Rattle.place_plan.proofs.DataApart.{stands, apart}
use Rattle.place_plan.proofs.Assembled.{SizesAgree, sizes, data_fits, data_known_small}

-- what stands behind so many bytes
pub literals_behind : (globals literals all : List ℕ) (end : ℕ) → all ≡ globals ++ literals → length all ≡ end + length literals → drop end all ≡ literals
literals_behind globals literals all end is many =
    let joined = length-append globals literals in let same : length globals ≡ end = omega (arith, many, ap length is, joined) in
    ap (λ (bytes : List ℕ). drop end bytes) is ∙ (ap (λ n. drop n (globals ++ literals)) (sym same) ∙ drop-append_seam globals literals)

known_there : (vs : List Known) (i : ℕ) (v : Known) → slice_get vs i ≡ Some v → slice_get (map global_known vs) i ≡ Some (global_known v)
known_there [] i v h = cc
known_there (w ∷ ws) zero v h = let same : w ≡ v = cc in ap (λ (u : Known). Some (global_known u)) same
known_there (w ∷ ws) (suc i) v h = known_there ws i v h

offset_each : (structs : List StructType) (free : ℕ) (vs : List Known) → length (offsets_from structs free (map global_known vs)) ≡ length vs
offset_each structs free [] = refl
offset_each structs free (v ∷ vs) = ap suc (offset_each structs (end_after v.defined (layout_of structs v.kind) free) vs)

pub planned_each : (tree : Tree) → length (plan_of tree).globals ≡ length (after tree).scope.variables
unfolding plan_of
planned_each tree = offset_each (structs_seen (after tree).scope.structs) 0 (after tree).scope.variables

abbrev pub SomeAlign : Type 0
SomeAlign = (structs : List StructType) (type : CType) → 1 ≤ (layout_of structs type).align

pub planned_stands : SomeAlign → (tree : Tree) (i o : ℕ) (v : Known) → slice_get (after tree).scope.variables i ≡ Some v → v.defined ≡ true → slice_get (plan_of tree).globals i ≡ Some o
    → Stands (layout_of (structs_seen (after tree).scope.structs) v.kind) 0 o (globals_size (after tree))
unfolding plan_of
planned_stands some tree i o v h d k = let scope = (after tree).scope in let structs = structs_seen scope.structs in
    stands structs (some structs) 0 (map global_known scope.variables) i o (global_known v) (known_there scope.variables i v h) d k

pub planned_apart : SomeAlign → (tree : Tree) (i j o p : ℕ) (v w : Known) → i < j → slice_get (after tree).scope.variables i ≡ Some v → slice_get (after tree).scope.variables j ≡ Some w → v.defined ≡ true → w.defined ≡ true
    → slice_get (plan_of tree).globals i ≡ Some o → slice_get (plan_of tree).globals j ≡ Some p → o + (layout_of (structs_seen (after tree).scope.structs) v.kind).size ≤ p
unfolding plan_of
planned_apart some tree i j o p v w lt h k d e m n = let scope = (after tree).scope in let structs = structs_seen scope.structs in
    apart structs (some structs) 0 (map global_known scope.variables) i j o p (global_known v) (global_known w) lt (known_there scope.variables i v h) (known_there scope.variables j w k) d e m n

pub planned_small : SizesAgree → (tree : Tree) (room : ℕ) → CanBeNumbered (after tree) → IsAccepted tree room → image_size tree ≤ 16777216
unfolding image_size
planned_small law tree room known h = data_known_small (after tree) known (sizes law (after tree) known) (data_fits tree room h)
