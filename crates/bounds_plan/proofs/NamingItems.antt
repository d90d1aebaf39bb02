-- The same of functions and of a whole source.
use Rattle.std.proofs.Common.{◌≡◌, inl, inr, ℕ, zero, suc, ◌+◌, Bool, true, false, nat_lt, refl, ap, List, [], ◌∷◌, ◌++◌, length, if◌then◌else◌}
use Rattle.std.specs.Prelude.{Option, None, Some, slice_index, slice_index_or}
use Rattle.mx_base.specs.declared.settings.Flags.{Flags}
use Rattle.c_tree.specs.declared.tree.Tree.{Tree}
use Rattle.c_tree.specs.declared.tree.Item.{Item}
use Rattle.c_tree.specs.declared.tree.ItemKind.{ItemKind}
use Rattle.c_tree.specs.declared.tree.ItemKind.TheVariants as k
use Rattle.c_tree.specs.declared.tree.Stmt.{Stmt}
use Rattle.c_types.specs.Types.{CType, StructType}
use Rattle.bounds_plan.specs.meaning.Functions.{Framed_variable}
use Rattle.bounds_plan.specs.laws.Roots.{StandsIn, IsFramed}
use Rattle.bounds_plan.specs.elaboration.Types.{Sort, ANumber, APointer, AWhole, NoValue, sort_of, size_in}
use Rattle.bounds_plan.specs.elaboration.Source.{Stand, Private, Frame, Meanings, SourceLayout, Signature, Around, past_declaration, declared_at, bind_at, function_number}
use Rattle.bounds_plan.specs.elaboration.Places.{private_values_of, offset_of, variable_at, variable_of}
use Rattle.bounds_plan.specs.elaboration.Expressions.{expression}
use Rattle.bounds_plan.specs.elaboration.Initialisers.{initialiser}
use Rattle.bounds_plan.specs.elaboration.Statements.{declarations, statement_by, maybe}
use Rattle.bounds_plan.specs.elaboration.Functions.{Defined, Gone, Body, framed, framed_variables, declared_all, body_by, with_body, with_known, after_item, after_items, at_start, gone_by, elaborated}
use Rattle.bounds_plan.specs.elaboration.Laws.{IsPlaced, NamesItsOwn, AllNameTheirOwn}
use Rattle.bounds_plan.proofs.Fitting.{FitsPlace}
use Rattle.bounds_plan.proofs.FittingItems.{variable_fits}
use Rattle.bounds_plan.proofs.Naming.{NamesPlace}
use Rattle.bounds_plan.proofs.NamingBodies.{statements_name}

-- ---- variables

first_stands : (x : Framed_variable) (rest : List Framed_variable) → StandsIn x (x ∷ rest)
first_stands x rest = record { before = []; after = rest; is = refl }

later_stands : (x y : Framed_variable) (rest : List Framed_variable) → StandsIn x rest → StandsIn x (y ∷ rest)
later_stands x y rest h = record { before = y ∷ h.before; after = h.after; is = ap (λ xs. y ∷ xs) h.is }

beside : (vs : List Bool) (offset size : ℕ) (x : Framed_variable) (rest : List Framed_variable) → StandsIn x rest → StandsIn x (framed vs offset size rest)
beside [] offset size x rest h = later_stands x _ rest h
beside (v ∷ vs) offset size x rest h = h

module _ (S : ℕ → ℕ → ℕ → Type 0) (F : ℕ → ℕ → Type 0) (private : ℕ) (is_bounds : ℕ → Bool) (takes : ℕ → ℕ) where
  abbrev HasBounds : ℕ → Type 0
  HasBounds x = is_bounds (x + 1) ≡ true

  first_names : (sort : Sort) (s : Stand) (x size : ℕ) (rest : List Framed_variable) → ((o n : ℕ) → IsFramed (framed (private_values_of sort s) (offset_of s) size rest) o n → F o n)
      → FitsPlace private is_bounds takes (variable_at sort s x size) → NamesPlace S F HasBounds (variable_at sort s x size)
  first_names (ANumber kind) Private x size rest in_frame h = tt
  first_names APointer Private x size rest in_frame h = h.2
  first_names AWhole Private x size rest in_frame h = in_frame 0 size (first_stands _ rest)
  first_names NoValue Private x size rest in_frame h = in_frame 0 size (first_stands _ rest)
  first_names (ANumber kind) (Frame offset) x size rest in_frame h = in_frame offset size (first_stands _ rest)
  first_names APointer (Frame offset) x size rest in_frame h = in_frame offset size (first_stands _ rest)
  first_names AWhole (Frame offset) x size rest in_frame h = in_frame offset size (first_stands _ rest)
  first_names NoValue (Frame offset) x size rest in_frame h = in_frame offset size (first_stands _ rest)

  variable_names : (structs : List StructType) (ts : List CType) (ss : List Stand) (x number : ℕ) → ((o n : ℕ) → IsFramed (framed_variables structs ts ss) o n → F o n)
      → FitsPlace private is_bounds takes (variable_of structs ts ss x number) → NamesPlace S F HasBounds (variable_of structs ts ss x number)
  variable_names structs [] ss x number in_frame h = tt
  variable_names structs (t ∷ ts) [] x number in_frame h = tt
  variable_names structs (t ∷ ts) (s ∷ ss) x zero in_frame h = first_names (sort_of t) s x (size_in structs t) (framed_variables structs ts ss) in_frame h
  variable_names structs (t ∷ ts) (s ∷ ss) x (suc n) in_frame h = variable_names structs ts ss (x + length (private_values_of (sort_of t) s)) n
      (λ o m stands. in_frame o m (beside (private_values_of (sort_of t) s) (offset_of s) (size_in structs t) _ (framed_variables structs ts ss) stands)) h

-- ---- a source

module _ (layout : SourceLayout) where
  global_placed : (l : SourceLayout) (number size : ℕ) → l ≡ layout → IsPlaced layout (slice_index_or l.globals number 0) 0 size
  global_placed l number size e = inl record { number = number; at = ap (λ (y : SourceLayout). slice_index_or y.globals number 0) e; begins = refl }

  function_placed : (l : SourceLayout) (number : ℕ) → l ≡ layout → IsPlaced layout (slice_index_or l.functions number 0) 0 1
  function_placed l number e = inr (inl record { number = number; at = ap (λ (y : SourceLayout). slice_index_or y.functions number 0) e; begins = refl; has = refl })

  literal_placed : (l : SourceLayout) (number size : ℕ) → l ≡ layout → IsPlaced layout l.texts (slice_index l.literals number) size
  literal_placed l number size e = inr (inr record { number = number; at = ap (λ (y : SourceLayout). y.texts) e; begins = ap (λ (y : SourceLayout). slice_index y.literals number) e })

  append_names : (fs : List Defined) (d : Defined) → AllNameTheirOwn layout fs → NamesItsOwn layout d.function → AllNameTheirOwn layout (fs ++ (d ∷ []))
  append_names [] d h g = (g, tt)
  append_names (f ∷ fs) d h g = (h.0, append_names fs d h.1 g)

  pub record Named (gone : Gone) : Type 0 where
    pub same : gone.around.layout ≡ layout
    pub functions : AllNameTheirOwn layout gone.functions

  abbrev bodies : Stmt → Body
  bodies = body_by (statement_by expression (initialiser expression)) declarations

  body_names : (o : Option Stmt) (number : ℕ) (s : Signature) (gone : Gone) → Named gone → Named (with_body (maybe bodies o) number s gone)
  body_names None number s gone h = h
  body_names (Some b) number s gone h = record {
    same = h.same;
    functions = append_names gone.functions _ h.functions record {
      body = statements_name (IsPlaced layout) _ _ b _ record {
        variables = λ number. variable_names (IsPlaced layout) _ _ _ (λ x. 0) gone.around.structs _ _ 0 number (λ o n stands. stands) (variable_fits (λ x. 0) gone.around.structs _ _ [] number);
        objects = λ number size. global_placed gone.around.layout number size h.same;
        functions = λ number. function_placed gone.around.layout number h.same;
        literals = λ number size. literal_placed gone.around.layout number size h.same;
      } gone.after;
    };
  }

  known_layout : (known : Bool) (s : Signature) (around : Around) → around.layout ≡ layout → (if known then around else record around { signatures = around.signatures ++ (s ∷ []) }).layout ≡ layout
  known_layout true s around h = h
  known_layout false s around h = h

  known_names : (o : Option ℕ) (s : Signature) (body : Option Stmt) (gone : Gone) → Named gone → Named (with_known o s (maybe bodies body) gone)
  known_names None s body gone h = h
  known_names (Some number) s body gone h = body_names body number s _ record { same = known_layout (nat_lt number (length gone.around.signatures)) s gone.around h.same; functions = h.functions }

  item_names : (x : ItemKind) (gone : Gone) → Named gone → Named (after_item expression (initialiser expression) bodies gone x)
  item_names (k.Struct tag members) gone h = record { same = h.same; functions = h.functions }
  item_names (k.Var external d init) gone h = record { same = h.same; functions = h.functions }
  item_names (k.Fun d params body) gone h = let ps = declared_all expression past_declaration params gone.around (past_declaration gone.after) in
      known_names (function_number (bind_at gone.around gone.after)) record { result = declared_at gone.around gone.after; parameters = ps.types } body record gone { after = ps.after } record { same = h.same; functions = h.functions }

  items_name : (xs : List Item) (gone : Gone) → Named gone → Named (after_items expression (initialiser expression) bodies gone xs)
  items_name [] gone h = h
  items_name (x ∷ xs) gone h = items_name xs (after_item expression (initialiser expression) bodies gone x.kind) (item_names x.kind gone h)

  pub elaborated_name : (tree : Tree) (meanings : Meanings) (flags : Flags) → AllNameTheirOwn layout (elaborated tree meanings layout flags)
  unfolding gone_by
  elaborated_name tree meanings flags = (items_name tree.items (at_start meanings layout flags) record { same = refl; functions = tt }).functions
