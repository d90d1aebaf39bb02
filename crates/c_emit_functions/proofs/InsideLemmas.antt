-- The parts of a function, by its variables, are those of the elaborated function.
use Rattle.std.proofs.Common.{◌≡◌, ℕ, Bool, ap, ◌∙◌, List, ◌++◌, map}
use Rattle.c_tree.specs.declared.tree.Stmt.{Stmt}
use Rattle.c_types.specs.Types.{CType, StructType, type_at}
use Rattle.fat_ir.specs.declared.program.FatFun.{FatFun}
use Rattle.bounds_plan.specs.meaning.Functions.{Parameter, Framed_variable}
use Rattle.bounds_plan.specs.steps.Code.{fat_function}
use Rattle.bounds_plan.specs.elaboration.Source.{Stand, Around}
use Rattle.bounds_plan.specs.elaboration.Expressions.{symbol_of}
use Rattle.bounds_plan.specs.elaboration.Statements.{declarations}
use Rattle.bounds_plan.specs.elaboration.Functions.{next_types}
use Rattle.steps_facts.specs.Seen.{reached_of}
use Rattle.steps_facts.specs.Around.{sorts_of}
use Rattle.steps_facts.specs.declared.knows.Standing.{Standing}
use Rattle.steps_structs.specs.Structs.{structs_known}
use Rattle.steps_known.specs.Standings.{standings_from}
use Rattle.steps_source.specs.declared.source.PlannedSource.{PlannedSource}
use Rattle.steps_items.specs.declared.bodies.BodyVariables.{BodyVariables}
use Rattle.steps_items.specs.declared.gone.Gone.{Gone}
use Rattle.steps_items.specs.declared.gone.FunctionHead.{FunctionHead}
use Rattle.steps_items.specs.Around.{table_of, around_at}
use Rattle.steps_items.specs.Bodies.{AreVariables, frame_at, around_inside}
use Rattle.c_emit_statements.specs.Bodies.{statement}
use Rattle.c_emit_functions.specs.Parameters.{parameters_standing, privates_standing}
use Rattle.c_emit_functions.specs.Functions.{function_of, function_inside}
use Rattle.c_emit_functions.proofs.ParameterLemmas.{parameters_stand, privates_stand}

module _ (source : PlannedSource) (gone : Gone) (head : FunctionHead) (body : Stmt) (v : BodyVariables)
    (are : AreVariables source gone head.parameters body v) where
  structs : List StructType
  structs = structs_known (table_of source) gone.structs

  stands : List Stand
  stands = (frame_at source gone).stands

  types : List CType
  types = map (type_at (table_of source)) head.parameters

  next : List CType
  next = next_types (around_at source gone) (reached_of gone.after) (declarations body)

  stand : v.standings ≡ standings_from structs 0 (types ++ next) stands
  unfolding structs stands types next
  stand = are.standings ∙ ap (λ ts. standings_from structs 0 ts stands) are.types

  pub parameters_are : parameters_standing (sorts_of (map (type_at (table_of source)) head.parameters)) v.standings
      ≡ (function_inside source gone head body).parameters
  unfolding structs stands types next
  parameters_are = ap (λ ss. parameters_standing (sorts_of types) ss) stand ∙ parameters_stand structs types next stands 0

  privates_are : privates_standing v.standings ≡ (function_inside source gone head body).privates
  unfolding structs stands types next
  privates_are = ap privates_standing stand ∙ privates_stand structs (types ++ next) stands 0

  -- the function with these parts
  abbrev fat : (name : ℕ) (ps : List Parameter) (privates : List Bool) (frame : ℕ) (around : Around) → FatFun
  fat name ps privates frame around = fat_function name (function_of ps privates frame
      (statement body around (reached_of gone.after)).statement (function_inside source gone head body).variables)

  pub function_is : (fun : FatFun) (around : Around) (name frame : ℕ) (ps : List Parameter) (standings : List Standing)
      → around ≡ around_inside source gone head body → name ≡ symbol_of around head.number
      → ps ≡ (function_inside source gone head body).parameters → standings ≡ v.standings → frame ≡ (frame_at source gone).size
      → ((variables : List Framed_variable) → fun ≡ fat_function name (function_of ps (privates_standing standings) frame
      (statement body around (reached_of gone.after)).statement variables))
      → fun ≡ fat_function (symbol_of (around_at source gone) head.number) (function_inside source gone head body)
  function_is fun around name frame ps standings known named parameters same size is =
      let whole = function_inside source gone head body in
      let symbol = symbol_of (around_at source gone) head.number in
      is whole.variables
      ∙ ap (λ n. fat n ps (privates_standing standings) frame around) (named ∙ ap (λ (a : Around). symbol_of a head.number) known)
      ∙ ap (λ qs. fat symbol qs (privates_standing standings) frame around) parameters
      ∙ ap (λ bs. fat symbol whole.parameters bs frame around) (ap privates_standing same ∙ privates_are)
      ∙ ap (λ n. fat symbol whole.parameters whole.privates n around) size
      ∙ ap (λ (a : Around). fat symbol whole.parameters whole.privates whole.frame a) known
