-- The same of functions and of a whole source.
use Rattle.std.proofs.Common.{◌≡◌, ℕ, zero, suc, ◌+◌, ◌<◌, Bool, true, false, refl, List, [], ◌∷◌, ◌++◌, length, if◌then◌else◌, nat_lt, sym, ◌∙◌, subst, arith, append_assoc, length-append}
use Rattle.std.specs.Prelude.{Option, None, Some, slice_get, slice_index_or}
use Rattle.mx_base.specs.declared.settings.Flags.{Flags}
use Rattle.c_tree.specs.declared.tree.Tree.{Tree}
use Rattle.c_tree.specs.declared.tree.Item.{Item}
use Rattle.c_tree.specs.declared.tree.ItemKind.{ItemKind}
use Rattle.c_tree.specs.declared.tree.ItemKind.TheVariants as k
use Rattle.c_tree.specs.declared.tree.Stmt.{Stmt}
use Rattle.c_types.specs.Types.{CType, StructType}
use Rattle.bounds_plan.specs.steps.Compiled.{ParametersStand, FitsFunction}
use Rattle.bounds_plan.specs.elaboration.Types.{Sort, ANumber, APointer, AWhole, NoValue, sort_of}
use Rattle.bounds_plan.specs.elaboration.Source.{Stand, Private, Frame, Meanings, SourceLayout, Signature, Around}
use Rattle.bounds_plan.specs.elaboration.Places.{private_values_of, private_values, variable_at, variable_of}
use Rattle.bounds_plan.specs.elaboration.Expressions.{expression}
use Rattle.bounds_plan.specs.elaboration.Initialisers.{initialiser}
use Rattle.bounds_plan.specs.elaboration.Statements.{declarations, statement_by, maybe}
use Rattle.bounds_plan.specs.elaboration.Functions.{Defined, Gone, Body, body_by, parameter_at, parameters_from, with_body, with_known, after_item, after_items, at_start, gone_by, elaborated, signatures_of}
use Rattle.bounds_plan.specs.elaboration.Laws.{TakesParameters, AllFit}
use Rattle.bounds_plan.proofs.Fitting.{FitsPlace}
use Rattle.bounds_plan.proofs.FittingBodies.{statements_fit}

-- ---- private values

index_behind : (pre rest : List Bool) (b : Bool) → slice_index_or (pre ++ (b ∷ rest)) (length pre) false ≡ b
index_behind [] rest b = refl
index_behind (x ∷ pre) rest b = index_behind pre rest b

second_behind : (pre rest : List Bool) (b c : Bool) → slice_index_or (pre ++ (b ∷ c ∷ rest)) (length pre + 1) false ≡ c
second_behind [] rest b c = refl
second_behind (x ∷ pre) rest b c = let e : suc (length pre) + 1 ≡ suc (length pre + 1) = omega arith in
    subst (λ n. slice_index_or (x ∷ (pre ++ (b ∷ c ∷ rest))) n false ≡ c) (sym e) (second_behind pre rest b c)

index_below : (pre rest : List Bool) (b : Bool) → length pre < length (pre ++ (b ∷ rest))
index_below pre rest b = omega (arith, length-append pre (b ∷ rest))

second_below : (pre rest : List Bool) (b c : Bool) → length pre + 1 < length (pre ++ (b ∷ c ∷ rest))
second_below pre rest b c = omega (arith, length-append pre (b ∷ c ∷ rest))

abbrev pub bounds_in : List Bool → ℕ → Bool
bounds_in w v = slice_index_or w v false

module _ (takes : ℕ → ℕ) where
  first_fits : (sort : Sort) (s : Stand) (rest pre : List Bool) (size : ℕ) → FitsPlace (length (pre ++ (private_values_of sort s ++ rest))) (bounds_in (pre ++ (private_values_of sort s ++ rest))) takes (variable_at sort s (length pre) size)
  first_fits (ANumber kind) Private rest pre size = (index_below pre rest false, index_behind pre rest false)
  first_fits APointer Private rest pre size = (second_below pre rest false true, index_behind pre (true ∷ rest) false, second_behind pre rest false true)
  first_fits AWhole Private rest pre size = tt
  first_fits NoValue Private rest pre size = tt
  first_fits (ANumber kind) (Frame offset) rest pre size = tt
  first_fits APointer (Frame offset) rest pre size = tt
  first_fits AWhole (Frame offset) rest pre size = tt
  first_fits NoValue (Frame offset) rest pre size = tt

  pub variable_fits : (structs : List StructType) (ts : List CType) (ss : List Stand) (pre : List Bool) (number : ℕ) → FitsPlace (length (pre ++ private_values ts ss)) (bounds_in (pre ++ private_values ts ss)) takes (variable_of structs ts ss (length pre) number)
  variable_fits structs [] ss pre number = tt
  variable_fits structs (t ∷ ts) [] pre number = tt
  variable_fits structs (t ∷ ts) (s ∷ ss) pre zero = first_fits (sort_of t) s (private_values ts ss) pre _
  variable_fits structs (t ∷ ts) (s ∷ ss) pre (suc n) = let vs = private_values_of (sort_of t) s in
      subst (λ w. FitsPlace (length w) (bounds_in w) takes (variable_of structs ts ss (length pre + length vs) n)) (append_assoc pre vs (private_values ts ss))
      (subst (λ x. FitsPlace (length ((pre ++ vs) ++ private_values ts ss)) (bounds_in ((pre ++ vs) ++ private_values ts ss)) takes (variable_of structs ts ss x n)) (length-append pre vs)
      (variable_fits structs ts ss (pre ++ vs) n))

  -- ---- parameters

  framed_stand : (ts : List CType) (private : ℕ) (is_bounds : ℕ → Bool) (home x : ℕ) → ParametersStand private is_bounds home (parameters_from x ts [])
  framed_stand [] private is_bounds home x = tt
  framed_stand (t ∷ ts) private is_bounds home x = framed_stand ts private is_bounds home x

  step_stands : (sort : Sort) (s : Stand) (private : ℕ) (is_bounds : ℕ → Bool) (x size : ℕ) (ts : List CType) (ss : List Stand) → FitsPlace private is_bounds takes (variable_at sort s x size)
      → ParametersStand private is_bounds (x + length (private_values_of sort s)) (parameters_from (x + length (private_values_of sort s)) ts ss)
      → ParametersStand private is_bounds x (parameter_at sort s x ∷ parameters_from (x + length (private_values_of sort s)) ts ss)
  step_stands (ANumber kind) Private private is_bounds x size ts ss h r = (refl, h, r)
  step_stands APointer Private private is_bounds x size ts ss h r = (refl, h, r)
  step_stands AWhole Private private is_bounds x size ts ss h r = let e : x + 0 ≡ x = omega arith in subst (λ y. ParametersStand private is_bounds y (parameters_from (x + 0) ts ss)) e r
  step_stands NoValue Private private is_bounds x size ts ss h r = let e : x + 0 ≡ x = omega arith in subst (λ y. ParametersStand private is_bounds y (parameters_from (x + 0) ts ss)) e r
  step_stands (ANumber kind) (Frame offset) private is_bounds x size ts ss h r = let e : x + 0 ≡ x = omega arith in subst (λ y. ParametersStand private is_bounds y (parameters_from (x + 0) ts ss)) e r
  step_stands APointer (Frame offset) private is_bounds x size ts ss h r = let e : x + 0 ≡ x = omega arith in subst (λ y. ParametersStand private is_bounds y (parameters_from (x + 0) ts ss)) e r
  step_stands AWhole (Frame offset) private is_bounds x size ts ss h r = let e : x + 0 ≡ x = omega arith in subst (λ y. ParametersStand private is_bounds y (parameters_from (x + 0) ts ss)) e r
  step_stands NoValue (Frame offset) private is_bounds x size ts ss h r = let e : x + 0 ≡ x = omega arith in subst (λ y. ParametersStand private is_bounds y (parameters_from (x + 0) ts ss)) e r

  parameters_stand : (ts more : List CType) (ss : List Stand) (pre : List Bool) → ParametersStand (length (pre ++ private_values (ts ++ more) ss)) (bounds_in (pre ++ private_values (ts ++ more) ss)) (length pre) (parameters_from (length pre) ts ss)
  parameters_stand [] more ss pre = tt
  parameters_stand (t ∷ ts) more [] pre = framed_stand ts _ _ (length pre) (length pre)
  parameters_stand (t ∷ ts) more (s ∷ ss) pre = let vs = private_values_of (sort_of t) s in let rest = private_values (ts ++ more) ss in
      step_stands (sort_of t) s _ _ (length pre) 0 ts ss (first_fits (sort_of t) s rest pre 0)
      (subst (λ w. ParametersStand (length w) (bounds_in w) (length pre + length vs) (parameters_from (length pre + length vs) ts ss)) (append_assoc pre vs rest)
      (subst (λ x. ParametersStand (length ((pre ++ vs) ++ rest)) (bounds_in ((pre ++ vs) ++ rest)) x (parameters_from x ts ss)) (length-append pre vs) (parameters_stand ts more ss (pre ++ vs))))

  -- ---- bodies

  append_fit : (fs : List Defined) (d : Defined) → AllFit takes fs → FitsFunction takes d.function → AllFit takes (fs ++ (d ∷ []))
  append_fit [] d h k = (k, tt)
  append_fit (f ∷ fs) d h k = (h.0, append_fit fs d h.1 k)

  abbrev Takes : Gone → Type 0
  Takes gone = TakesParameters takes gone.around.layout gone.around.signatures

  abbrev bodies : Stmt → Body
  bodies = body_by (statement_by expression (initialiser expression)) declarations

  body_fits : (o : Option Stmt) (number : ℕ) (s : Signature) (gone : Gone) → Takes gone → AllFit takes gone.functions → AllFit takes (with_body (maybe bodies o) number s gone).functions
  body_fits None number s gone t h = h
  body_fits (Some b) number s gone t h = append_fit gone.functions _ h record {
    parameters = parameters_stand s.parameters _ _ [];
    body = statements_fit _ _ takes b _ record { variables = variable_fits gone.around.structs _ _ []; calls = t } gone.after;
  }

  body_back : (o : Option Stmt) (number : ℕ) (s : Signature) (gone : Gone) → Takes (with_body (maybe bodies o) number s gone) → Takes gone
  body_back None number s gone t = t
  body_back (Some b) number s gone t = t

  got_stays : (xs ys : List Signature) (n : ℕ) (s : Signature) → slice_get xs n ≡ Some s → slice_get (xs ++ ys) n ≡ Some s
  got_stays [] ys n s h = cc
  got_stays (x ∷ xs) ys zero s h = h
  got_stays (x ∷ xs) ys (suc n) s h = got_stays xs ys n s h

  signature_back : (known : Bool) (s : Signature) (around : Around) → let next = (if known then around else record around { signatures = around.signatures ++ (s ∷ []) }) in
      TakesParameters takes next.layout next.signatures → TakesParameters takes around.layout around.signatures
  signature_back true s around t = t
  signature_back false s around t = λ number u h. t number u (got_stays around.signatures (s ∷ []) number u h)

  known_fits : (o : Option ℕ) (s : Signature) (body : Option Stmt) (gone : Gone) → Takes (with_known o s (maybe bodies body) gone) → AllFit takes gone.functions → AllFit takes (with_known o s (maybe bodies body) gone).functions
  known_fits None s body gone t h = h
  known_fits (Some number) s body gone t h = body_fits body number s _ (body_back body number s _ t) h

  known_back : (o : Option ℕ) (s : Signature) (body : Option Stmt) (gone : Gone) → Takes (with_known o s (maybe bodies body) gone) → Takes gone
  known_back None s body gone t = t
  known_back (Some number) s body gone t = signature_back (nat_lt number (length gone.around.signatures)) s gone.around (body_back body number s _ t)

  -- ---- items

  abbrev on : Gone → ItemKind → Gone
  on = after_item expression (initialiser expression) bodies

  abbrev all_on : Gone → List Item → Gone
  all_on = after_items expression (initialiser expression) bodies

  item_fits : (x : ItemKind) (gone : Gone) → Takes (on gone x) → AllFit takes gone.functions → AllFit takes (on gone x).functions
  item_fits (k.Struct tag members) gone t h = h
  item_fits (k.Var external d init) gone t h = h
  item_fits (k.Fun d params body) gone t h = known_fits _ _ body _ t h

  item_back : (x : ItemKind) (gone : Gone) → Takes (on gone x) → Takes gone
  item_back (k.Struct tag members) gone t = t
  item_back (k.Var external d init) gone t = t
  item_back (k.Fun d params body) gone t = known_back _ _ body _ t

  items_back : (xs : List Item) (gone : Gone) → Takes (all_on gone xs) → Takes gone
  items_back [] gone t = t
  items_back (x ∷ xs) gone t = item_back x.kind gone (items_back xs (on gone x.kind) t)

  items_fit : (xs : List Item) (gone : Gone) → Takes (all_on gone xs) → AllFit takes gone.functions → AllFit takes (all_on gone xs).functions
  items_fit [] gone t h = h
  items_fit (x ∷ xs) gone t h = items_fit xs (on gone x.kind) t (item_fits x.kind gone (items_back xs (on gone x.kind) t) h)

  signature_layout : (known : Bool) (s : Signature) (around : Around) → (if known then around else record around { signatures = around.signatures ++ (s ∷ []) }).layout ≡ around.layout
  signature_layout true s around = refl
  signature_layout false s around = refl

  known_layout : (o : Option ℕ) (s : Signature) (body : Option Stmt) (gone : Gone) → (with_known o s (maybe bodies body) gone).around.layout ≡ gone.around.layout
  known_layout None s body gone = refl
  known_layout (Some number) s None gone = signature_layout (nat_lt number (length gone.around.signatures)) s gone.around
  known_layout (Some number) s (Some b) gone = signature_layout (nat_lt number (length gone.around.signatures)) s gone.around

  item_layout : (x : ItemKind) (gone : Gone) → (on gone x).around.layout ≡ gone.around.layout
  item_layout (k.Struct tag members) gone = refl
  item_layout (k.Var external d init) gone = refl
  item_layout (k.Fun d params body) gone = known_layout _ _ body _

  layout_stays : (xs : List Item) (gone : Gone) → (all_on gone xs).around.layout ≡ gone.around.layout
  layout_stays [] gone = refl
  layout_stays (x ∷ xs) gone = layout_stays xs (on gone x.kind) ∙ item_layout x.kind gone

  pub elaborated_fit : (tree : Tree) (meanings : Meanings) (layout : SourceLayout) (flags : Flags) → TakesParameters takes layout (signatures_of tree meanings layout flags) → AllFit takes (elaborated tree meanings layout flags)
  unfolding gone_by
  elaborated_fit tree meanings layout flags t = items_fit tree.items (at_start meanings layout flags)
      (subst (λ y. TakesParameters takes y (all_on (at_start meanings layout flags) tree.items).around.signatures) (sym (layout_stays tree.items (at_start meanings layout flags))) t) tt
