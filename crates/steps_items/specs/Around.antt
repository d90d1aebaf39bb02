-- What is around an item of a planned source, by what was declared in front of it.
use Rattle.std.specs.Prelude.{◌≡◌, Option, Some, List, map, All}
use Rattle.c_tree.specs.declared.tree.Decl.{Decl}
use Rattle.c_tree.specs.declared.tree.Init.{Init}
use Rattle.c_types.specs.Types.{Types, type_at, IsIn}
use Rattle.bounds_plan.specs.elaboration.Source.{Around, Reached, Signature, declared_at, bind_at, past_declaration, function_number}
use Rattle.bounds_plan.specs.elaboration.Expressions.{expression}
use Rattle.bounds_plan.specs.elaboration.Initialisers.{initialiser}
use Rattle.bounds_plan.specs.elaboration.Statements.{past_counts, maybe}
use Rattle.bounds_plan.specs.elaboration.Functions.{Declared, declared_all, past_initialiser}
use Rattle.bounds_plan.specs.elaboration.Source as elaborated
use Rattle.steps_facts.specs.Seen.{reached_of}
use Rattle.steps_structs.specs.Structs.{AreKnown}
use Rattle.steps_known.specs.Functions.{AreSorted}
use Rattle.steps_source.specs.declared.source.PlannedSource.{PlannedSource}
use Rattle.steps_source.specs.Around.{IsPlanned, around_in}
use Rattle.steps_items.specs.declared.gone.Gone.{Gone}
use Rattle.steps_items.specs.declared.gone.FunctionHead.{FunctionHead}

-- the types that the numbers of a source mean
abbrev pub table_of : PlannedSource → Types
table_of source = source.checked.now.types

abbrev pub IsSource : PlannedSource → Type 0
IsSource source = IsPlanned source.tree.now source.checked.now source.plan.now source.symbols.now

-- outside of functions, behind what was gone through
abbrev pub around_at : PlannedSource → Gone → Around
around_at source gone = around_in source.tree.now (table_of source) source.literals.now source.flags gone.structs gone.functions

-- structs and functions are kept with what is asked of them
pub record IsGone (source : PlannedSource) (gone : Gone) : Type 0 where
  pub structs : AreKnown (table_of source) gone.structs
  pub functions : AreSorted (table_of source) gone.functions

-- how far the declaration of a global goes
abbrev pub behind_variable : Decl → Option Init → Around → Reached → Reached
behind_variable d init around r = let here = past_counts expression d around r in
    past_initialiser (maybe (initialiser expression) init) around (declared_at around here) (past_declaration here)

-- the parameters of a function whose declarator stands here
abbrev pub parameters_at_head : List Decl → Around → Reached → Declared
parameters_at_head parameters around r = declared_all expression past_declaration parameters around (past_declaration r)

-- the members of a struct, and the parameters of a function, whose declaration stands next in a source
abbrev pub members_next : PlannedSource → Gone → List Decl → Declared
members_next source gone members = declared_all expression elaborated.past_member members (around_at source gone) (reached_of gone.after)

abbrev pub parameters_next : PlannedSource → Gone → List Decl → Declared
parameters_next source gone parameters = parameters_at_head parameters (around_at source gone) (reached_of gone.after)

abbrev pub signature_at : PlannedSource → FunctionHead → Signature
signature_at source h = record { result = type_at (table_of source) h.result; parameters = map (type_at (table_of source)) h.parameters }

-- the function that is declared here
pub record IsHead (source : PlannedSource) (around : Around) (r : Reached) (parameters : List Decl) (h : FunctionHead) : Type 0 where
  pub number : function_number (bind_at around r) ≡ Some h.number
  pub signature : signature_at source h ≡ record { result = declared_at around r; parameters = (parameters_at_head parameters around r).types }
  pub result : IsIn (table_of source) h.result
  pub parameters_in : All (IsIn (table_of source)) h.parameters
