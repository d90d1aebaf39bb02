-- The same of functions and of a whole source.
use Rattle.std.proofs.Common.{◌≡◌, ℕ, zero, suc, ◌+◌, ◌≤◌, Bool, true, false, nat_lt, List, [], ◌∷◌, ◌++◌, length, if◌then◌else◌, arith}
use Rattle.std.specs.Prelude.{Option, None, Some, slice_get}
use Rattle.mx_base.specs.declared.settings.Flags.{Flags}
use Rattle.c_tree.specs.declared.tree.Tree.{Tree}
use Rattle.c_tree.specs.declared.tree.Item.{Item}
use Rattle.c_tree.specs.declared.tree.ItemKind.{ItemKind}
use Rattle.c_tree.specs.declared.tree.ItemKind.TheVariants as k
use Rattle.c_tree.specs.declared.tree.Stmt.{Stmt}
use Rattle.bounds_plan.specs.steps.Sorts.{pairs_of}
use Rattle.bounds_plan.specs.elaboration.Source.{Meanings, SourceLayout, Reached, Signature, Around}
use Rattle.bounds_plan.specs.elaboration.Expressions.{expression}
use Rattle.bounds_plan.specs.elaboration.Initialisers.{initialiser}
use Rattle.bounds_plan.specs.elaboration.Statements.{maybe, declarations, statement_by}
use Rattle.bounds_plan.specs.elaboration.Functions.{Defined, Gone, Body, body_by, with_body, with_known, after_item, after_items, at_start, gone_by, elaborated, signatures_of}
use Rattle.bounds_plan.specs.elaboration.Waits.{waits_stmt, body_waits, item_waits, items_waits}
use Rattle.bounds_plan.specs.elaboration.Laws.{HaveFewParameters, AllNeed}
use Rattle.bounds_plan.proofs.WaitingBodies.{statements_short}

append_need : (n : ℕ) (fs : List Defined) (d : Defined) → AllNeed n fs → pairs_of d.function.body ≤ n → AllNeed n (fs ++ (d ∷ []))
append_need n [] d h k = (k, tt)
append_need n (f ∷ fs) d h k = (h.0, append_need n fs d h.1 k)

abbrev FewSo : Gone → Type 0
FewSo gone = HaveFewParameters gone.around.signatures

abbrev bodies : Stmt → Body
bodies = body_by (statement_by expression (initialiser expression)) declarations

statement_needs : (n : ℕ) (b : Stmt) → waits_stmt b + 8 ≤ n → (around : Around) → HaveFewParameters around.signatures → (r : Reached) → pairs_of (statement_by expression (initialiser expression) b around r).statement ≤ n
statement_needs n b le around few r = omega (arith, statements_short b around few r)

body_needs : (n : ℕ) (o : Option Stmt) (number : ℕ) (s : Signature) (gone : Gone) → body_waits o + 8 ≤ n → FewSo gone → AllNeed n gone.functions → AllNeed n (with_body (maybe bodies o) number s gone).functions
body_needs n None number s gone le few h = h
body_needs n (Some b) number s gone le few h = append_need n gone.functions _ h (statement_needs n b le _ few gone.after)

body_back : (o : Option Stmt) (number : ℕ) (s : Signature) (gone : Gone) → FewSo (with_body (maybe bodies o) number s gone) → FewSo gone
body_back None number s gone t = t
body_back (Some b) number s gone t = t

got_stays : (xs ys : List Signature) (n : ℕ) (s : Signature) → slice_get xs n ≡ Some s → slice_get (xs ++ ys) n ≡ Some s
got_stays [] ys n s h = cc
got_stays (x ∷ xs) ys zero s h = h
got_stays (x ∷ xs) ys (suc n) s h = got_stays xs ys n s h

signature_back : (known : Bool) (s : Signature) (around : Around) → HaveFewParameters (if known then around else record around { signatures = around.signatures ++ (s ∷ []) }).signatures → HaveFewParameters around.signatures
signature_back true s around t = t
signature_back false s around t = λ number u h. t number u (got_stays around.signatures (s ∷ []) number u h)

known_needs : (n : ℕ) (o : Option ℕ) (s : Signature) (body : Option Stmt) (gone : Gone) → body_waits body + 8 ≤ n → FewSo (with_known o s (maybe bodies body) gone) → AllNeed n gone.functions → AllNeed n (with_known o s (maybe bodies body) gone).functions
known_needs n None s body gone le t h = h
known_needs n (Some number) s body gone le t h = body_needs n body number s _ le (body_back body number s _ t) h

known_back : (o : Option ℕ) (s : Signature) (body : Option Stmt) (gone : Gone) → FewSo (with_known o s (maybe bodies body) gone) → FewSo gone
known_back None s body gone t = t
known_back (Some number) s body gone t = signature_back (nat_lt number (length gone.around.signatures)) s gone.around (body_back body number s _ t)

abbrev on : Gone → ItemKind → Gone
on = after_item expression (initialiser expression) bodies

abbrev all_on : Gone → List Item → Gone
all_on = after_items expression (initialiser expression) bodies

item_needs : (n : ℕ) (x : ItemKind) (gone : Gone) → item_waits x + 8 ≤ n → FewSo (on gone x) → AllNeed n gone.functions → AllNeed n (on gone x).functions
item_needs n (k.Struct tag members) gone le t h = h
item_needs n (k.Var external d init) gone le t h = h
item_needs n (k.Fun d params body) gone le t h = known_needs n _ _ body _ le t h

item_back : (x : ItemKind) (gone : Gone) → FewSo (on gone x) → FewSo gone
item_back (k.Struct tag members) gone t = t
item_back (k.Var external d init) gone t = t
item_back (k.Fun d params body) gone t = known_back _ _ body _ t

items_back : (xs : List Item) (gone : Gone) → FewSo (all_on gone xs) → FewSo gone
items_back [] gone t = t
items_back (x ∷ xs) gone t = item_back x.kind gone (items_back xs (on gone x.kind) t)

items_need : (n : ℕ) (xs : List Item) (gone : Gone) → items_waits xs + 8 ≤ n → FewSo (all_on gone xs) → AllNeed n gone.functions → AllNeed n (all_on gone xs).functions
items_need n [] gone le t h = h
items_need n (x ∷ xs) gone le t h = items_need n xs (on gone x.kind) (omega arith) t (item_needs n x.kind gone (omega arith) (items_back xs (on gone x.kind) t) h)

pub elaborated_need : (tree : Tree) (meanings : Meanings) (layout : SourceLayout) (flags : Flags) → HaveFewParameters (signatures_of tree meanings layout flags) → AllNeed (items_waits tree.items + 8) (elaborated tree meanings layout flags)
unfolding gone_by
elaborated_need tree meanings layout flags t = items_need (items_waits tree.items + 8) tree.items (at_start meanings layout flags) (omega arith) t tt
