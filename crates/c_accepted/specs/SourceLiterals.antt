-- The sizes of the literals of a source, in tree order.
use Rattle.std.specs.Prelude.{ℕ, zero, suc, Option, None, Some, List, [], ◌∷◌, ◌++◌, map, slice_index_or}
use Rattle.mx_base.specs.declared.settings.Flags.{Flags}
use Rattle.c_tree.specs.declared.tree.Tree.{Tree}
use Rattle.c_tree.specs.declared.tree.Item.{Item}
use Rattle.c_tree.specs.declared.tree.ItemKind.{ItemKind}
use Rattle.c_tree.specs.declared.tree.ItemKind.TheVariants as k
use Rattle.c_tree.specs.declared.tree.Decl.{Decl}
use Rattle.c_tree.specs.declared.tree.Expr.{Expr}
use Rattle.c_tree.specs.declared.tree.Init.{Init, fold-Init}
use Rattle.c_tree.specs.declared.tree.InitKind.{InitKind-F}
use Rattle.c_tree.specs.declared.tree.InitKind.TheOpen as i
use Rattle.c_tree.specs.declared.tree.Stmt.{Stmt, fold-Stmt}
use Rattle.c_tree.specs.declared.tree.StmtKind.{StmtKind-F}
use Rattle.c_tree.specs.declared.tree.StmtKind.TheOpen as s
use Rattle.c_tree.specs.declared.tree.StmtKind.TheFolds as sf
use Rattle.c_types.specs.Types.{CType, Void, Int, Pointer, Array, Struct, members_of}
use Rattle.c_types.specs.Layouts.{layout_of, offsets_from}
use Rattle.bounds_plan.specs.laws.Roots.{NamesStatement}
use Rattle.bounds_plan.specs.elaboration.Source.{SourceLayout, Meanings, Reached, Signature, Around, declared_at, bind_at, past_declaration, function_number}
use Rattle.bounds_plan.specs.elaboration.Expressions.{expression}
use Rattle.bounds_plan.specs.elaboration.Initialisers.{initialiser}
use Rattle.bounds_plan.specs.elaboration.Statements.{Stating, done_by, tested_by, maybe, past_counts, declarations, stmt_step, statement_by}
use Rattle.bounds_plan.specs.elaboration.Functions.{Defined, Gone, Body, declared_all, with_signature, no_frame, in_body, next_types, body_by, after_item, at_start}
use Rattle.c_accepted.specs.Literals.{text_sizes, HasSize, IsWholeText}

-- ---- initialisers

-- by the type of what is filled
abbrev pub Sizes : Type 0
Sizes = Around → CType → List ℕ

-- a text that fills an array is no literal
abbrev pub one_sizes : CType → List ℕ → List ℕ
one_sizes Void sizes = sizes
one_sizes (Int kind) sizes = sizes
one_sizes (Pointer target) sizes = sizes
one_sizes (Array element count) sizes = []
one_sizes (Struct number) sizes = sizes

-- so many elements of a type
abbrev pub elements_sizes : List Sizes → Around → CType → (count : ℕ) → List ℕ
elements_sizes [] around element count = []
elements_sizes (x ∷ more) around element zero = []
elements_sizes (x ∷ more) around element (suc n) = x around element ++ elements_sizes more around element n

-- members of these types, one for each offset
abbrev pub members_sizes : List Sizes → Around → List CType → (offsets : List ℕ) → List ℕ
members_sizes [] around types offsets = []
members_sizes (x ∷ more) around [] offsets = []
members_sizes (x ∷ more) around (t ∷ ts) [] = []
members_sizes (x ∷ more) around (t ∷ ts) (o ∷ os) = x around t ++ members_sizes more around ts os

abbrev pub many_sizes : List Sizes → Sizes
many_sizes all around Void = []
many_sizes all around (Int kind) = []
many_sizes all around (Pointer target) = []
many_sizes all around (Array element count) = elements_sizes all around element count
many_sizes all around (Struct number) = members_sizes all around (members_of around.structs number) (offsets_from 0 (map (layout_of around.structs) (members_of around.structs number)))

abbrev pub init_sizes_step : InitKind-F Sizes Sizes → Sizes
init_sizes_step (i.One x) around type = one_sizes type (text_sizes x)
init_sizes_step (i.Many all) around type = many_sizes all around type

abbrev pub init_sizes : Init → Sizes
init_sizes = fold-Init Sizes Sizes init_sizes_step (λ x. x.kind)

-- ---- parts of statements

abbrev pub maybe_sizes : Option Expr → List ℕ
maybe_sizes None = []
maybe_sizes (Some x) = text_sizes x

-- the counts of declarations are gone through
abbrev pub counts_sizes : List Expr → List ℕ
counts_sizes [] = []
counts_sizes (x ∷ more) = text_sizes x ++ counts_sizes more

abbrev pub decls_sizes : List Decl → List ℕ
decls_sizes [] = []
decls_sizes (d ∷ more) = counts_sizes d.counts ++ decls_sizes more

-- what is declared next is filled
abbrev pub declared_sizes : Option Init → Around → Reached → List ℕ
declared_sizes None around r = []
declared_sizes (Some x) around r = init_sizes x around (declared_at around r)

-- ---- statements, beside what they are in the core tree

abbrev pub Listing : Type 0
Listing = Around → Reached → List ℕ

abbrev pub Listed : Type 0
Listed = Listing × Stating

abbrev pub all_sizes : List Listed → Listing
all_sizes [] around r = []
all_sizes (x ∷ more) around r = x.0 around r ++ all_sizes more around (x.1 around r).after

abbrev pub other_sizes : Option Listed → Listing
other_sizes None around r = []
other_sizes (Some x) around r = x.0 around r

abbrev pub stmt_sizes_step : StmtKind-F Listed Listed → Listing
stmt_sizes_step (s.Value value) around r = maybe_sizes value
stmt_sizes_step (s.Local d init) around r = counts_sizes d.counts ++ declared_sizes init around (past_counts expression d around r)
stmt_sizes_step (s.If test a other) around r = let c = expression test around r in text_sizes test ++ (a.0 around c.after ++ other_sizes other around (a.1 around c.after).after)
stmt_sizes_step (s.While test body) around r = text_sizes test ++ body.0 around (expression test around r).after
stmt_sizes_step (s.DoWhile body test) around r = body.0 around r ++ text_sizes test
stmt_sizes_step (s.For first test next body) around r = let f = done_by (maybe expression first) around r in let c = tested_by (maybe expression test) around f.after in let n = done_by (maybe expression next) around c.after in
    maybe_sizes first ++ (maybe_sizes test ++ (maybe_sizes next ++ body.0 around n.after))
stmt_sizes_step s.Break around r = []
stmt_sizes_step s.Continue around r = []
stmt_sizes_step (s.Return value) around r = maybe_sizes value
stmt_sizes_step (s.Block all) around r = all_sizes all around r

abbrev pub listed_step : StmtKind-F Listed Listed → Listed
listed_step y = (stmt_sizes_step y, stmt_step expression (initialiser expression) (sf.map-StmtKind Listed Listed Stating Stating (λ a. a.1) (λ b. b.1) y))

abbrev pub listed : Stmt → Listed
listed = fold-Stmt Listed Listed listed_step (λ x. x.kind)

-- ---- items

abbrev pub bodies : Stmt → Body
bodies = body_by (statement_by expression (initialiser expression)) declarations

abbrev pub body_sizes : Option Stmt → Signature → Gone → List ℕ
body_sizes None s gone = []
body_sizes (Some b) s gone = let frame = slice_index_or gone.around.layout.frames gone.after.body no_frame in
    (listed b).0 (in_body (s.parameters ++ next_types gone.around gone.after (declarations b)) frame.stands s.result gone.around) gone.after

abbrev pub known_sizes : Option ℕ → Signature → Option Stmt → Gone → List ℕ
known_sizes None s body gone = []
known_sizes (Some number) s body gone = body_sizes body s record gone { around = with_signature number s gone.around }

abbrev pub function_sizes : List Decl → Option Stmt → Gone → List ℕ
function_sizes params body gone = let ps = declared_all expression past_declaration params gone.around (past_declaration gone.after) in
    let s : Signature = record { result = declared_at gone.around gone.after; parameters = ps.types } in
    decls_sizes params ++ known_sizes (function_number (bind_at gone.around gone.after)) s body record gone { after = ps.after }

abbrev pub item_sizes : Gone → ItemKind → List ℕ
item_sizes gone (k.Struct tag members) = decls_sizes members
item_sizes gone (k.Var external d init) = counts_sizes d.counts ++ declared_sizes init gone.around (past_counts expression d gone.around gone.after)
item_sizes gone (k.Fun d params body) = function_sizes params body gone

abbrev pub items_sizes : Gone → List Item → List ℕ
items_sizes gone [] = []
items_sizes gone (x ∷ more) = item_sizes gone x.kind ++ items_sizes (after_item expression (initialiser expression) bodies gone x.kind) more

-- the sizes of the literals of a source
abbrev pub literal_sizes : Tree → Meanings → SourceLayout → Flags → List ℕ
literal_sizes tree meanings layout flags = items_sizes (at_start meanings layout flags) tree.items

-- ---- functions

-- each literal that a function names is named whole, with a number and size of which this fact holds
abbrev pub AllNameLiterals : (ℕ → ℕ → Type 0) → SourceLayout → List Defined → Type 0
AllNameLiterals so layout [] = Unit {0}
AllNameLiterals so layout (d ∷ more) = NamesStatement (IsWholeText so layout) (λ offset size. Unit {0}) (λ x. Unit {0}) d.function.body × AllNameLiterals so layout more

-- the literals have these sizes
abbrev pub AllNameWholeLiterals : List ℕ → SourceLayout → List Defined → Type 0
AllNameWholeLiterals sizes layout defined = AllNameLiterals (HasSize 0 sizes) layout defined
