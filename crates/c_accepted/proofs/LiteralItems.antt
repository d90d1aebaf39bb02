-- The same of functions and of a whole source.
use Rattle.std.proofs.Common.{◌≡◌, ℕ, ◌+◌, Bool, true, false, nat_lt, refl, subst, List, [], ◌∷◌, ◌++◌, length, if◌then◌else◌}
use Rattle.std.specs.Prelude.{Option, None, Some, slice_index_or}
use Rattle.mx_base.specs.declared.settings.Flags.{Flags}
use Rattle.c_tree.specs.declared.tree.Tree.{Tree}
use Rattle.c_tree.specs.declared.tree.Item.{Item}
use Rattle.c_tree.specs.declared.tree.ItemKind.{ItemKind}
use Rattle.c_tree.specs.declared.tree.ItemKind.TheVariants as k
use Rattle.c_tree.specs.declared.tree.Decl.{Decl}
use Rattle.c_tree.specs.declared.tree.Init.{Init}
use Rattle.c_tree.specs.declared.tree.Stmt.{Stmt}
use Rattle.bounds_plan.specs.meaning.Core.{Null}
use Rattle.bounds_plan.specs.laws.Roots.{NamesStatement}
use Rattle.bounds_plan.specs.elaboration.Source.{Meanings, SourceLayout, Signature, Around, Reached, past_declaration, past_member, declared_at, bind_at, function_number}
use Rattle.bounds_plan.specs.elaboration.Places.{InMemory}
use Rattle.bounds_plan.specs.elaboration.Expressions.{expression}
use Rattle.bounds_plan.specs.elaboration.Initialisers.{initialiser}
use Rattle.bounds_plan.specs.elaboration.Statements.{declarations, statement_by, maybe, past_counts}
use Rattle.bounds_plan.specs.elaboration.Functions.{Defined, Gone, declared_all, with_signature, no_frame, in_body, next_types, past_initialiser, with_body, with_known, with_function, after_item, after_items, at_start, gone_by, elaborated}
use Rattle.c_accepted.specs.Literals.{HasSize, IsWholeText}
use Rattle.c_accepted.specs.SourceLiterals.{counts_sizes, decls_sizes, declared_sizes, bodies, body_sizes, known_sizes, item_sizes, items_sizes, literal_sizes, AllNameLiterals, AllNameWholeLiterals}
use Rattle.c_accepted.proofs.Literals.{Stand, all_stand, first_stand}
use Rattle.c_accepted.proofs.LiteralBodies.{nothing, counted, then_stand, counts_counted, decls_counted, initialisers_sized}
use Rattle.c_accepted.proofs.LiteralStatements.{statements_sized}

module _ (T : ℕ → ℕ → Type 0) (layout : SourceLayout) where
  append_names : (fs : List Defined) (d : Defined) → AllNameLiterals T layout fs → NamesStatement (IsWholeText T layout) (λ offset size. Unit {0}) (λ x. Unit {0}) d.function.body → AllNameLiterals T layout (fs ++ (d ∷ []))
  append_names [] d h g = (g, tt)
  append_names (f ∷ fs) d h g = (h.0, append_names fs d h.1 g)

  -- what was gone through has so many literals, of these sizes, and its functions name them whole
  record GoesOn (gone new : Gone) (sizes : List ℕ) : Type 0 where
    counts : new.after.literal ≡ gone.after.literal + length sizes
    layout_is : gone.around.layout ≡ layout → new.around.layout ≡ layout
    names : gone.around.layout ≡ layout → Stand T gone.after.literal sizes → AllNameLiterals T layout gone.functions → AllNameLiterals T layout new.functions

  body_goes : (o : Option Stmt) (number : ℕ) (s : Signature) (gone : Gone) → GoesOn gone (with_body (maybe bodies o) number s gone) (body_sizes o s gone)
  body_goes None number s gone = record { counts = nothing gone.after.literal; layout_is = λ e. e; names = λ e h all. all }
  body_goes (Some b) number s gone = let frame = slice_index_or gone.around.layout.frames gone.after.body no_frame in
      let around = in_body (s.parameters ++ next_types gone.around gone.after (declarations b)) frame.stands s.result gone.around in record {
        counts = (statements_sized T b).0 around gone.after;
        layout_is = λ e. e;
        names = λ e h all. append_names gone.functions _ all (subst (λ l. NamesStatement (IsWholeText T l) (λ offset size. Unit {0}) (λ x. Unit {0}) (statement_by expression (initialiser expression) b around gone.after).statement) e ((statements_sized T b).1 around gone.after h));
      }

  known_layout : (known : Bool) (s : Signature) (around : Around) → around.layout ≡ layout → (if known then around else record around { signatures = around.signatures ++ (s ∷ []) }).layout ≡ layout
  known_layout true s around h = h
  known_layout false s around h = h

  known_goes : (o : Option ℕ) (s : Signature) (body : Option Stmt) (gone : Gone) → GoesOn gone (with_known o s (maybe bodies body) gone) (known_sizes o s body gone)
  known_goes None s body gone = record { counts = nothing gone.after.literal; layout_is = λ e. e; names = λ e h all. all }
  known_goes (Some number) s body gone = let go = body_goes body number s record gone { around = with_signature number s gone.around } in
      let same = known_layout (nat_lt number (length gone.around.signatures)) s gone.around in record { counts = go.counts; layout_is = λ e. go.layout_is (same e); names = λ e h all. go.names (same e) h all }

  function_goes : (d : Decl) (params : List Decl) (body : Option Stmt) (gone : Gone) → GoesOn gone (with_function expression d params (maybe bodies body) gone) (item_sizes gone (k.Fun d params body))
  function_goes d params body gone = let ps = declared_all expression past_declaration params gone.around (past_declaration gone.after) in
      let s : Signature = record { result = declared_at gone.around gone.after; parameters = ps.types } in let mid : Gone = record gone { after = ps.after } in let number = function_number (bind_at gone.around gone.after) in
      let go = known_goes number s body mid in let ys = known_sizes number s body mid in
      let first = decls_counted T past_declaration (λ r. refl) params gone.around (past_declaration gone.after) in record {
        counts = counted gone.after.literal ps.after.literal _ (decls_sizes params) ys first go.counts;
        layout_is = λ e. go.layout_is e;
        names = λ e h all. go.names e (then_stand T gone.after.literal ps.after.literal (decls_sizes params) ys first h) all;
      }

  global_counts : (o : Option Init) (around : Around) (r : Reached) → (past_initialiser (maybe (initialiser expression) o) around (declared_at around r) (past_declaration r)).literal ≡ r.literal + length (declared_sizes o around r)
  global_counts None around r = nothing r.literal
  global_counts (Some x) around r = (initialisers_sized T x).0 around (declared_at around r) (InMemory Null) 0 (past_declaration r)

  item_goes : (x : ItemKind) (gone : Gone) → GoesOn gone (after_item expression (initialiser expression) bodies gone x) (item_sizes gone x)
  item_goes (k.Struct tag members) gone = record { counts = decls_counted T past_member (λ r. refl) members gone.around gone.after; layout_is = λ e. e; names = λ e h all. all }
  item_goes (k.Var external d init) gone = let here = past_counts expression d gone.around gone.after in record {
    counts = counted gone.after.literal here.literal _ (counts_sizes d.counts) (declared_sizes init gone.around here) (counts_counted T d.counts gone.around gone.after) (global_counts init gone.around here);
    layout_is = λ e. e;
    names = λ e h all. all;
  }
  item_goes (k.Fun d params body) gone = function_goes d params body gone

  items_name : (xs : List Item) (gone : Gone) → gone.around.layout ≡ layout → Stand T gone.after.literal (items_sizes gone xs) → AllNameLiterals T layout gone.functions
      → AllNameLiterals T layout (after_items expression (initialiser expression) bodies gone xs).functions
  items_name [] gone e h all = all
  items_name (x ∷ xs) gone e h all = let go = item_goes x.kind gone in let next = after_item expression (initialiser expression) bodies gone x.kind in let s = item_sizes gone x.kind in let more = items_sizes next xs in
      items_name xs next (go.layout_is e) (then_stand T gone.after.literal next.after.literal s more go.counts h) (go.names e (first_stand T gone.after.literal s more h) all)

pub literals_whole : (tree : Tree) (meanings : Meanings) (layout : SourceLayout) (flags : Flags) → AllNameWholeLiterals (literal_sizes tree meanings layout flags) layout (elaborated tree meanings layout flags)
unfolding gone_by
literals_whole tree meanings layout flags = let sizes = literal_sizes tree meanings layout flags in let T = HasSize 0 sizes in
    items_name T layout tree.items (at_start meanings layout flags) refl (all_stand T 0 sizes (λ at size e. record { place = at; at = refl; known = e })) tt
