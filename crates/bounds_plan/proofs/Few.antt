-- Functions that are declared with few parameters, and whose layout has few private variables, have few of both.
use Rattle.std.proofs.Common.{◌≡◌, ℕ, zero, suc, ◌+◌, ◌≤◌, Bool, true, false, nat_lt, refl, List, [], ◌∷◌, ◌++◌, length, if◌then◌else◌, arith}
use Rattle.std.specs.Prelude.{Option, None, Some, slice_get, slice_index_or}
use Rattle.std.proofs.Common.{subst}
use Rattle.mx_base.specs.declared.settings.Flags.{Flags}
use Rattle.c_tree.specs.declared.tree.Tree.{Tree}
use Rattle.c_tree.specs.declared.tree.Item.{Item}
use Rattle.c_tree.specs.declared.tree.ItemKind.{ItemKind}
use Rattle.c_tree.specs.declared.tree.ItemKind.TheVariants as k
use Rattle.c_tree.specs.declared.tree.Decl.{Decl}
use Rattle.c_tree.specs.declared.tree.Expr.{Expr}
use Rattle.c_tree.specs.declared.tree.Stmt.{Stmt}
use Rattle.c_types.specs.Types.{CType}
use Rattle.bounds_plan.specs.steps.Sorts.{how_many}
use Rattle.bounds_plan.specs.elaboration.Types.{Sort, ANumber, APointer, AWhole, NoValue, sort_of}
use Rattle.bounds_plan.specs.elaboration.Source.{Stand, Private, Frame, Meanings, SourceLayout, Reached, Signature, Around, past_declaration, declared_at, bind_at, function_number}
use Rattle.bounds_plan.specs.elaboration.Places.{private_values_of, private_values}
use Rattle.bounds_plan.specs.elaboration.Expressions.{Reading, expression}
use Rattle.bounds_plan.specs.elaboration.Initialisers.{initialiser}
use Rattle.bounds_plan.specs.elaboration.Statements.{past_counts, maybe, declarations, statement_by}
use Rattle.bounds_plan.specs.elaboration.Functions.{Defined, Gone, Body, no_frame, parameters_from, declared_all, body_by, with_body, with_known, after_item, after_items, at_start, gone_by, elaborated, signatures_of}
use Rattle.bounds_plan.specs.elaboration.Laws.{HaveFewParameters, TakesFew, AllTakeFew, is_private, privates_in, HaveFewPrivates, HaveFewVariables}

-- ---- one function

few_values_of : (b : Bool) (sort : Sort) (s : Stand) → how_many b (private_values_of sort s) ≤ is_private s
few_values_of true (ANumber kind) Private = omega arith
few_values_of false (ANumber kind) Private = omega arith
few_values_of true APointer Private = omega arith
few_values_of false APointer Private = omega arith
few_values_of b AWhole Private = omega arith
few_values_of b NoValue Private = omega arith
few_values_of b (ANumber kind) (Frame offset) = omega arith
few_values_of b APointer (Frame offset) = omega arith
few_values_of b AWhole (Frame offset) = omega arith
few_values_of b NoValue (Frame offset) = omega arith

how_many_append : (b : Bool) (xs ys : List Bool) → how_many b (xs ++ ys) ≡ how_many b xs + how_many b ys
how_many_append b [] ys = omega arith
how_many_append b (x ∷ xs) ys = let h = how_many_append b xs ys in omega (arith, h)

few_values : (b : Bool) (types : List CType) (stands : List Stand) → how_many b (private_values types stands) ≤ privates_in stands
few_values b [] stands = omega arith
few_values b (t ∷ ts) [] = omega arith
few_values b (t ∷ ts) (s ∷ ss) =
    let one = few_values_of b (sort_of t) s in
    let more = few_values b ts ss in
    let both = how_many_append b (private_values_of (sort_of t) s) (private_values ts ss) in
    omega (arith, one, more, both)

as_many_parameters : (x : ℕ) (types : List CType) (stands : List Stand) → length (parameters_from x types stands) ≡ length types
as_many_parameters x [] stands = refl
as_many_parameters x (t ∷ ts) [] = let h = as_many_parameters x ts [] in omega (arith, h)
as_many_parameters x (t ∷ ts) (s ∷ ss) = let h = as_many_parameters (x + length (private_values_of (sort_of t) s)) ts ss in omega (arith, h)

as_many_types : (read : Expr → Reading) (past : Reached → Reached) (params : List Decl) (around : Around) (r : Reached) → length (declared_all read past params around r).types ≡ length params
as_many_types read past [] around r = refl
as_many_types read past (d ∷ more) around r = let h = as_many_types read past more around (past (past_counts read d around r)) in omega (arith, h)

-- ---- a source

append_variables : (fs : List Defined) (d : Defined) → HaveFewVariables fs → (length d.function.parameters ≤ 6) × (how_many false d.function.privates ≤ 64) × (how_many true d.function.privates ≤ 64) → HaveFewVariables (fs ++ (d ∷ []))
append_variables [] d h g = (g, tt)
append_variables (f ∷ fs) d h g = (h.0, append_variables fs d h.1 g)

append_signature : (xs : List Signature) (s : Signature) → HaveFewParameters xs → length s.parameters ≤ 6 → HaveFewParameters (xs ++ (s ∷ []))
append_signature [] s h le zero u e = let same : s ≡ u = cc in subst (λ (x : Signature). length x.parameters ≤ 6) same le
append_signature [] s h le (suc n) u e = cc
append_signature (x ∷ xs) s h le zero u e = h zero u e
append_signature (x ∷ xs) s h le (suc n) u e = append_signature xs s (λ m v g. h (suc m) v g) le n u e

pub record Few (gone : Gone) : Type 0 where
  pub signatures : HaveFewParameters gone.around.signatures
  pub functions : HaveFewVariables gone.functions
  pub layout : HaveFewPrivates gone.around.layout

abbrev bodies : Stmt → Body
bodies = body_by (statement_by expression (initialiser expression)) declarations

few_of : (b : Bool) (types : List CType) (stands : List Stand) → privates_in stands ≤ 64 → how_many b (private_values types stands) ≤ 64
few_of b types stands most = let few = few_values b types stands in omega (arith, few, most)

few_body : (o : Option Stmt) (number : ℕ) (s : Signature) (gone : Gone) → length s.parameters ≤ 6 → Few gone → Few (with_body (maybe bodies o) number s gone)
few_body None number s gone le h = h
few_body (Some b) number s gone le h = let stands = (slice_index_or gone.around.layout.frames gone.after.body no_frame).stands in record {
  signatures = h.signatures;
  functions = append_variables gone.functions _ h.functions ((let same = as_many_parameters 0 s.parameters stands in omega (arith, le, same)), few_of false _ stands (h.layout gone.after.body), few_of true _ stands (h.layout gone.after.body));
  layout = h.layout;
}

few_signature : (known : Bool) (s : Signature) (around : Around) → length s.parameters ≤ 6 → HaveFewParameters around.signatures → HaveFewParameters (if known then around else record around { signatures = around.signatures ++ (s ∷ []) }).signatures
few_signature true s around le h = h
few_signature false s around le h = append_signature around.signatures s h le

same_layout : (known : Bool) (s : Signature) (around : Around) → HaveFewPrivates around.layout → HaveFewPrivates (if known then around else record around { signatures = around.signatures ++ (s ∷ []) }).layout
same_layout true s around h = h
same_layout false s around h = h

few_known : (o : Option ℕ) (s : Signature) (body : Option Stmt) (gone : Gone) → length s.parameters ≤ 6 → Few gone → Few (with_known o s (maybe bodies body) gone)
few_known None s body gone le h = h
few_known (Some number) s body gone le h = few_body body number s _ le record {
  signatures = few_signature (nat_lt number (length gone.around.signatures)) s gone.around le h.signatures;
  functions = h.functions;
  layout = same_layout (nat_lt number (length gone.around.signatures)) s gone.around h.layout;
}

few_item : (x : ItemKind) (gone : Gone) → TakesFew x → Few gone → Few (after_item expression (initialiser expression) bodies gone x)
few_item (k.Struct tag members) gone le h = record { signatures = h.signatures; functions = h.functions; layout = h.layout }
few_item (k.Var external d init) gone le h = record { signatures = h.signatures; functions = h.functions; layout = h.layout }
few_item (k.Fun d params body) gone le h =
    let ps = declared_all expression past_declaration params gone.around (past_declaration gone.after) in
    let same = as_many_types expression past_declaration params gone.around (past_declaration gone.after) in
    few_known (function_number (bind_at gone.around gone.after)) record { result = declared_at gone.around gone.after; parameters = ps.types } body record gone { after = ps.after }
    (omega (arith, le, same)) record { signatures = h.signatures; functions = h.functions; layout = h.layout }

few_items : (xs : List Item) (gone : Gone) → AllTakeFew xs → Few gone → Few (after_items expression (initialiser expression) bodies gone xs)
few_items [] gone le h = h
few_items (x ∷ xs) gone le h = few_items xs (after_item expression (initialiser expression) bodies gone x.kind) le.1 (few_item x.kind gone le.0 h)

none_yet : (n : ℕ) (s : Signature) → slice_get {X = Signature} [] n ≡ Some s → length s.parameters ≤ 6
none_yet n s e = cc

few_gone : (tree : Tree) (meanings : Meanings) (layout : SourceLayout) (flags : Flags) → AllTakeFew tree.items → HaveFewPrivates layout → Few (gone_by expression (initialiser expression) bodies tree meanings layout flags)
unfolding gone_by
few_gone tree meanings layout flags few layouts = few_items tree.items (at_start meanings layout flags) few record { signatures = none_yet; functions = tt; layout = layouts }

pub few_parameters : (tree : Tree) (meanings : Meanings) (layout : SourceLayout) (flags : Flags) → AllTakeFew tree.items → HaveFewPrivates layout → HaveFewParameters (signatures_of tree meanings layout flags)
few_parameters tree meanings layout flags few layouts = (few_gone tree meanings layout flags few layouts).signatures

pub few_variables : (tree : Tree) (meanings : Meanings) (layout : SourceLayout) (flags : Flags) → AllTakeFew tree.items → HaveFewPrivates layout → HaveFewVariables (elaborated tree meanings layout flags)
few_variables tree meanings layout flags few layouts = (few_gone tree meanings layout flags few layouts).functions
