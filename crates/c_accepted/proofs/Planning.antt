-- The frames of a plan are those of a planned layout, and its functions have symbols of their own.
use Rattle.std.proofs.Common.{◌≡◌, ℕ, suc, ◌+◌, ◌≤◌, ◌&&◌, not, Bool, true, false, refl, ap, List, [], ◌∷◌, map, length, arith}
use Rattle.mx_base.specs.declared.settings.Flags.{Flags}
use Rattle.c_tree.specs.declared.tree.Tree.{Tree}
use Rattle.c_tree.specs.Formed.{IsFormed}
use Rattle.c_types.specs.declared.layout.Layout.{Layout}
use Rattle.c_types.specs.Types.{CType, Void, Int, Pointer, Array, Struct, StructType}
use Rattle.c_types.specs.Layouts.{layout_of}
use Rattle.c_check_rules.specs.declared.names.Function.{Function as KnownFunction}
use Rattle.c_check_rules.specs.Conversions.{is_scalar}
use Rattle.c_check_statements.specs.declared.state.Body.{Body}
use Rattle.c_check_statements.specs.declared.state.BodyVariable.{BodyVariable}
use Rattle.c_check_statements.specs.Frames.{is_private}
use Rattle.c_check.specs.Accepted.{IsAccepted, after}
use Rattle.c_check.specs.declared.symbols.Subject.TheVariants.{Function}
use Rattle.c_check.specs.Symbols.{named}
use Rattle.c_check.specs.Standing.{structs_seen}
use Rattle.place_plan.specs.Frames.{values_of, spot_at, free_after, spots_from, nothing_taken, frame_plan}
use Rattle.place_plan.specs.Source.{variable_known, body_known, plan_of}
use Rattle.bounds_plan.specs.elaboration.Functions.{elaborated, signatures_of}
use Rattle.c_accepted.specs.Alike.{meanings_of, signatures_seen}
use Rattle.c_accepted.specs.Frames.{StandAs, AllStand, AllPlanned}
use Rattle.c_accepted.specs.Linked.{defined_by, CanBeLinked}
use Rattle.c_accepted.specs.Meeting.{AllMeet}
use Rattle.c_accepted.specs.Planned.{stand_of, layout_frame, planned_frames, layout_of_plan, planned_source}
use Rattle.c_accepted.specs.Symbols.{arguments_of, HaveSymbols}
use Rattle.c_accepted.proofs.Elaborating.{gone_alike}
use Rattle.c_accepted.proofs.Links.{can_link}
use Rattle.c_accepted.proofs.Meeting.{planned_meet}
use Rattle.c_accepted.proofs.Places.{numbers_differ, as_many_numbers}

-- ---- frames

stands_as : (v : BodyVariable) (kind : CType) (taken : Bool) (layout : Layout) (free : _) → is_private v ≡ (is_scalar kind && not taken) → StandAs v (stand_of (spot_at (values_of taken kind) layout free))
stands_as v Void true layout free e = e
stands_as v (Int kind) true layout free e = e
stands_as v (Pointer target) true layout free e = e
stands_as v (Array element count) true layout free e = e
stands_as v (Struct number) true layout free e = e
stands_as v Void false layout free e = e
stands_as v (Int kind) false layout free e = e
stands_as v (Pointer target) false layout free e = e
stands_as v (Array element count) false layout free e = e
stands_as v (Struct number) false layout free e = e

all_stand : (structs : List StructType) (free : _) (vs : List BodyVariable) → AllStand vs (map stand_of (spots_from structs free (map variable_known vs)))
all_stand structs free [] = tt
all_stand structs free (v ∷ vs) = (stands_as v v.kind v.taken (layout_of structs v.kind) free refl, all_stand structs (free_after (values_of v.taken v.kind) (layout_of structs v.kind) free) vs)

all_planned : (structs : List StructType) (bs : List Body) → AllPlanned bs (map layout_frame (map (frame_plan structs) (map body_known bs)))
all_planned structs [] = tt
all_planned structs (b ∷ bs) = (all_stand structs nothing_taken b.variables, all_planned structs bs)

pub frames_planned : (tree : Tree) → AllPlanned (after tree).bodies (planned_frames tree)
unfolding plan_of
frames_planned tree = all_planned (structs_seen (after tree).scope.structs) (after tree).bodies

-- ---- symbols

as_many_signatures : (fs : List KnownFunction) → length (signatures_seen fs) ≡ length fs
as_many_signatures [] = refl
as_many_signatures (f ∷ fs) = ap suc (as_many_signatures fs)

pub symbols_had : (tree : Tree) (room : ℕ) → IsFormed tree → room ≤ 32768 → IsAccepted tree room → (literals : List ℕ) (flags : Flags) → let layout = layout_of_plan tree literals in HaveSymbols layout (signatures_of tree (meanings_of (after tree).notes) layout flags)
symbols_had tree room formed few h literals flags =
    let layout = layout_of_plan tree literals in let scope = (after tree).scope in
    let signatures = ap length (gone_alike tree room formed few h layout flags).signatures in let known = as_many_signatures scope.functions in
    let behind = length (named tree) + 1 + length scope.variables in let symbols = as_many_numbers Function (named tree) behind 0 (length scope.functions) in
    record { enough = omega (arith, signatures, known, symbols); differ = numbers_differ (named tree) behind 0 (length scope.functions) (omega arith) }

-- ---- functions

pub accepted_meet : (tree : Tree) (room : ℕ) → IsFormed tree → room ≤ 32768 → IsAccepted tree room → (literals : List ℕ) (flags : Flags) → let meanings = meanings_of (after tree).notes in let layout = layout_of_plan tree literals in
    AllMeet (arguments_of layout.functions (signatures_of tree meanings layout flags)) layout (elaborated tree meanings layout flags)
accepted_meet tree room formed few h literals flags = planned_meet tree room formed few h (layout_of_plan tree literals) flags (frames_planned tree) (symbols_had tree room formed few h literals flags)

pub planned_links : (tree : Tree) (room : ℕ) (formed : IsFormed tree) (few : room ≤ 32768) (h : IsAccepted tree room) (literals : List ℕ) (flags : Flags) → let source = planned_source tree room formed few h literals flags in
    1 ≤ length (defined_by source) → CanBeLinked source
planned_links tree room formed few h literals flags some = can_link (planned_source tree room formed few h literals flags) some (symbols_had tree room formed few h literals flags)
