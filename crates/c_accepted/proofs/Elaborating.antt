-- What the elaboration of an accepted source is, by what the checker knows of it.
use Rattle.std.proofs.Common.{◌≡◌, subst, ℕ, ◌≤◌, refl, Bool, true, nat_lt, ◌&&◌, List, [], ◌∷◌, map, length, arith}
use Rattle.std.specs.List.{list_all}
use Rattle.mx_base.specs.declared.settings.Flags.{Flags}
use Rattle.c_tree.specs.declared.tree.Tree.{Tree}
use Rattle.c_tree.specs.declared.tree.Item.{Item}
use Rattle.c_tree.specs.declared.tree.ItemKind.{ItemKind}
use Rattle.c_tree.specs.declared.tree.ItemKind.TheVariants as k
use Rattle.c_tree.specs.declared.tree.Decl.{Decl}
use Rattle.c_tree.specs.declared.tree.Expr.{Expr}
use Rattle.c_tree.specs.Count.{total, item_nodes, kind_nodes, tree_nodes}
use Rattle.c_tree.specs.Formed.{is_empty, stands, formed_decl, without_counts, formed_body, formed_kind, formed_item, IsFormed}
use Rattle.c_check_rules.specs.declared.names.Scope.{Scope}
use Rattle.c_check_typing.specs.declared.fault.CheckKind.TheVariants.{TooLarge}
use Rattle.c_check_typing.specs.Refusals.{breaks}
use Rattle.c_check_typing.specs.Expressions.{seen}
use Rattle.c_check_statements.specs.Sources.{at_start}
use Rattle.c_check.proofs.StandingItems.{numbered_source}
use Rattle.c_tree.proofs.FewStars.{formed_has_few_stars}
use Rattle.c_check.specs.Accepted.{at_first, is_too_large, IsAccepted, after}
use Rattle.bounds_plan.specs.elaboration.Source.{Meanings, SourceLayout}
use Rattle.bounds_plan.specs.elaboration.Expressions.{expression}
use Rattle.bounds_plan.specs.elaboration.Initialisers.{initialiser}
use Rattle.bounds_plan.specs.elaboration.Functions.{after_items, at_start as elaborated_at_start, gone_by, gone_through, elaborated, signatures_of}
use Rattle.c_accepted.specs.Alike.{meanings_of, FoundAlike, GoneAlike, AllTakeWhatTheyHave, AllCopySmall}
use Rattle.c_accepted.specs.Wholes.{AllNameWholeGlobals}
use Rattle.c_accepted.specs.Frames.{AllPlanned, AllFramed, AreOfBodies}
use Rattle.c_accepted.proofs.Empty.{first_empty, none_at, not_broken, not_above}
use Rattle.c_accepted.proofs.Going.{front_itself}
use Rattle.c_accepted.proofs.Expressions.{expressions_alike}
use Rattle.c_accepted.proofs.Heads.{NoCounts, both_true}
use Rattle.c_accepted.proofs.Bodies.{Stands, bodies}
use Rattle.c_accepted.proofs.Sourcing.{Plain, AllPlain, StaySmall, ItemsGo, items_go, items_whole}
use Rattle.c_accepted.proofs.Small.{none_broken}

-- ---- expressions

pub found_alike : (x : Expr) (functions : Bool) (scope : Scope) → (seen x functions scope).broken ≡ [] → FoundAlike (seen x functions scope) (expression x)
found_alike x functions scope h = let a = expressions_alike x functions scope h in record { typed = a.typed; is = a.is; on = a.goes.on; still = a.goes.still; at = a.goes.at; type = a.type }

-- ---- formed trees

pub empty_list : {X : Type 0} (xs : List X) → is_empty xs ≡ true → xs ≡ []
empty_list [] h = refl
empty_list (x ∷ xs) h = cc

pub plain_params : (params : List Decl) → list_all without_counts params ≡ true → NoCounts params
plain_params [] h = tt
plain_params (d ∷ more) h = let p = both_true (without_counts d) (list_all without_counts more) h in (empty_list d.counts (both_true (formed_decl d) (is_empty d.counts) p.0).1, plain_params more p.1)

pub plain_kind : (x : ItemKind) → formed_kind x ≡ true → Plain x
plain_kind (k.Struct tag members) h = tt
plain_kind (k.Var external d init) h = tt
plain_kind (k.Fun d params body) h = let p = both_true (without_counts d && list_all without_counts params) (formed_body body) h in let q = both_true (without_counts d) (list_all without_counts params) p.0 in
    (empty_list d.counts (both_true (formed_decl d) (is_empty d.counts) q.0).1, plain_params params q.1)

pub all_plain : (all : List Item) → list_all formed_item all ≡ true → AllPlain all
all_plain [] h = tt
all_plain (x ∷ more) h = let p = both_true (formed_item x) (list_all formed_item more) h in (plain_kind x.kind (both_true (stands x.place) (formed_kind x.kind) p.0).1, all_plain more p.1)

-- ---- how many items there are

pub one_node : (x : ItemKind) → 1 ≤ kind_nodes x
one_node (k.Struct tag members) = omega arith
one_node (k.Var external d init) = omega arith
one_node (k.Fun d params body) = omega arith

pub many_nodes : (all : List Item) → length all ≤ total (map item_nodes all)
many_nodes [] = omega arith
many_nodes (x ∷ more) = omega (arith, one_node x.kind, many_nodes more)

pub few_by : (all : List Item) (b : Bool) (nodes room : ℕ) → at_first all (breaks TooLarge (nat_lt room nodes)) ≡ [] → length all ≤ nodes → length all ≤ room
few_by [] b nodes room h le = omega arith
few_by (x ∷ more) b nodes room h le = let small = not_above room nodes (not_broken TooLarge _ (none_at x.place _ h)) in omega (arith, small)

pub few_items : (tree : Tree) (room : ℕ) → IsAccepted tree room → length tree.items ≤ room
few_items tree room h = few_by tree.items true (tree_nodes tree) room (first_empty (at_first tree.items (breaks TooLarge (is_too_large tree room))) _ h) (many_nodes tree.items)

-- ---- a whole source

pub start_stands : (w : Meanings) (layout : SourceLayout) (flags : Flags) → Stands w (elaborated_at_start w layout flags) at_start
start_stands w layout flags = record { at = record { kind = refl; name = refl; declaration = refl }; body = refl; meanings = refl; structs = refl; tags_same = refl; members = refl; signatures = refl }

pub goes_through : (tree : Tree) (room : ℕ) → IsFormed tree → room ≤ 32768 → IsAccepted tree room → (layout : SourceLayout) (flags : Flags) → let w = meanings_of (after tree).notes in
    ItemsGo w (elaborated_at_start w layout flags) (after_items expression (initialiser expression) bodies (elaborated_at_start w layout flags) tree.items) at_start (after tree)
goes_through tree room formed few h layout flags = let w = meanings_of (after tree).notes in
    items_go tree.items w (elaborated_at_start w layout flags) at_start (start_stands w layout flags) (all_plain tree.items formed) (omega (arith, few_items tree room h)) (none_broken tree room h) (front_itself w)

pub gone_alike : (tree : Tree) (room : ℕ) → IsFormed tree → room ≤ 32768 → IsAccepted tree room → (layout : SourceLayout) (flags : Flags) → GoneAlike (after tree) (gone_through tree (meanings_of (after tree).notes) layout flags)
unfolding gone_by
gone_alike tree room formed few h layout flags = let s = (goes_through tree room formed few h layout flags).stands in
    record { at = s.at; structs = s.structs; tags_same = s.tags_same; members = s.members; signatures = s.signatures }

pub take_what_they_have : (tree : Tree) (room : ℕ) → IsFormed tree → room ≤ 32768 → IsAccepted tree room → (layout : SourceLayout) (flags : Flags) → let w = meanings_of (after tree).notes in
    AllTakeWhatTheyHave (signatures_of tree w layout flags) (elaborated tree w layout flags)
unfolding gone_by
take_what_they_have tree room formed few h layout flags = (goes_through tree room formed few h layout flags).takes tt

pub copy_small : (tree : Tree) (room : ℕ) → IsFormed tree → room ≤ 32768 → IsAccepted tree room → StaySmall (after tree) → (layout : SourceLayout) (flags : Flags) → AllCopySmall (elaborated tree (meanings_of (after tree).notes) layout flags)
unfolding gone_by
copy_small tree room formed few h small layout flags = (goes_through tree room formed few h layout flags).copies small tt

pub parameters_framed : (tree : Tree) (room : ℕ) → IsFormed tree → room ≤ 32768 → IsAccepted tree room → (layout : SourceLayout) (flags : Flags) → AllPlanned (after tree).bodies layout.frames → AllFramed (elaborated tree (meanings_of (after tree).notes) layout flags)
unfolding gone_by
parameters_framed tree room formed few h layout flags planned = (goes_through tree room formed few h layout flags).framed planned tt

pub of_their_bodies : (tree : Tree) (room : ℕ) → IsFormed tree → room ≤ 32768 → IsAccepted tree room → (layout : SourceLayout) (flags : Flags) → AreOfBodies (after tree).scope.structs layout 0 (elaborated tree (meanings_of (after tree).notes) layout flags) (after tree).bodies
unfolding gone_by
of_their_bodies tree room formed few h layout flags = let go = goes_through tree room formed few h layout flags in
    subst (λ (l : SourceLayout). AreOfBodies (after tree).scope.structs l 0 (elaborated tree (meanings_of (after tree).notes) layout flags) (after tree).bodies) go.layout (go.of_bodies tt)

pub few_variables : (tree : Tree) (room : ℕ) → IsFormed tree → room ≤ 32768 → IsAccepted tree room → length (after tree).scope.variables ≤ 4294967295
few_variables tree room formed few h = let many = (numbered_source tree room formed (formed_has_few_stars tree formed) few h).few in omega (arith, many)

pub name_whole_globals : (tree : Tree) (room : ℕ) → IsFormed tree → room ≤ 32768 → IsAccepted tree room → (layout : SourceLayout) (flags : Flags) → AllNameWholeGlobals tree layout (elaborated tree (meanings_of (after tree).notes) layout flags)
unfolding gone_by
name_whole_globals tree room formed few h layout flags = let w = meanings_of (after tree).notes in let go = goes_through tree room formed few h layout flags in
    subst (λ (l : SourceLayout). AllNameWholeGlobals tree l (elaborated tree w layout flags)) go.layout
    (items_whole tree.items w (elaborated_at_start w layout flags) at_start (start_stands w layout flags) (all_plain tree.items formed) (omega (arith, few_items tree room h)) (none_broken tree room h) (front_itself w)
    tree [] refl refl (few_variables tree room formed few h) tt)
