-- All types of a source have numbers in one table.
use Rattle.std.proofs.Common.{◌≡◌, ℕ, List, [], ◌∷◌, ◌++◌, length, ap, sym, ◌∙◌, subst, append_assoc, append-nil}
use Rattle.std.specs.List.{All}
use Rattle.std.proofs.lemmas.List.{length_push}
use Rattle.std.proofs.lemmas.List.Elements.{All-weaker, All-map}
use Rattle.c_types.specs.declared.shape.TypeId.{TypeId}
use Rattle.c_types.specs.Types.{CType, StructType, Types, structs_of}
use Rattle.c_check_rules.specs.declared.names.StructInfo.{StructInfo}
use Rattle.c_check_rules.specs.declared.names.Variable.{Variable}
use Rattle.c_check_rules.specs.declared.predeclared.Bind.{Bind}
use Rattle.c_check_statements.specs.declared.state.State.{State}
use Rattle.c_check_statements.specs.declared.state.Body.{Body}
use Rattle.c_check_statements.specs.declared.state.BodyVariable.{BodyVariable}
use Rattle.c_check.specs.declared.checked.GlobalVariable.{GlobalVariable}
use Rattle.c_check.specs.declared.symbols.Symbol.{Symbol}
use Rattle.c_check.specs.declared.checked.CheckedBody.{CheckedBody}
use Rattle.c_check.specs.declared.checked.CheckedStruct.{CheckedStruct}
use Rattle.c_check.specs.Checked.{Number, IsGlobals, AreBodies, AreStructs, Says}
use Rattle.c_check.specs.Standing.{structs_from, structs_seen, AreLaid, Stands, HoldsValues, VariableStands, BodyStands}
use Rattle.c_check.specs.Numbering.{HasNumber, HoldsNumber, BodyHasNumbers, KnowsMembers, Grows, global_types, local_types, struct_type}
use Rattle.c_check.proofs.TableGrowth.{knows-still, structs-still, number-still, grows-then}
use Rattle.c_check.proofs.TableStructs.{known-still}
use Rattle.c_check.proofs.TableLists.{globals-still}
use Rattle.c_check.proofs.TableSizes.{Agrees, agrees-none, agrees-closed, has-number, holds-number}

-- ---- the structs

agrees-from : (before structs : List StructInfo) (seen : List StructType) → Agrees before seen → AreLaid before structs → Agrees (before ++ structs) (structs_from (length before) seen structs)
agrees-from before [] seen agree laid = subst (λ (s : List StructInfo). Agrees s seen) (sym (append-nil before)) agree
agrees-from before (s ∷ more) seen agree laid =
    let rest = agrees-from (before ++ s ∷ []) more (struct_type (length before) s ∷ seen) (agrees-closed before seen s agree laid.0) laid.1 in
    subst (λ (n : ℕ). Agrees (before ++ s ∷ more) (structs_from n (struct_type (length before) s ∷ seen) more)) (length_push before s)
    (subst (λ (ss : List StructInfo). Agrees ss (structs_from (length (before ++ s ∷ [])) (struct_type (length before) s ∷ seen) more)) (append_assoc before (s ∷ []) more) rest)

agrees-all : (structs : List StructInfo) → AreLaid [] structs → Agrees structs (structs_seen structs)
agrees-all structs laid = agrees-from [] structs [] agrees-none laid

-- a table with the structs of a source
pub record Begun (structs : List StructInfo) (table : Types) : Type 0 where
  pub seen : structs_of table ≡ structs_seen structs
  pub begun : table.begun ≡ length structs
  pub members : KnowsMembers table

pub begun-with : (given structs : List StructInfo) (table : Types) → given ≡ structs → structs_of table ≡ structs_seen given → table.begun ≡ length given → KnowsMembers table → Begun structs table
begun-with given structs table is seen begun members = record { seen = seen ∙ ap structs_seen is; begun = begun ∙ ap length is; members = members }

pub begun-more : (structs : List StructInfo) (old new : Types) → Grows old new → Begun structs old → Begun structs new
begun-more structs old new g h = record {
  seen = structs-still old new g h.members ∙ h.seen;
  begun = g.begun ∙ h.begun;
  members = knows-still old new g h.members;
}

-- ---- what has a number

module _ (structs : List StructInfo) (table : Types) (h : Begun structs table) (laid : AreLaid [] structs) where
  by-table : (P : List StructType → ℕ → Type 0) → P (structs_seen structs) (length structs) → P (structs_of table) table.begun
  by-table P p = subst (λ (n : ℕ). P (structs_of table) n) (sym h.begun) (subst (λ (ss : List StructType). P ss (length structs)) (sym h.seen) p)

  holds : (kinds : List CType) → All (HoldsValues structs) kinds → All (HoldsNumber (structs_of table) table.begun) kinds
  holds kinds all =
      by-table (λ ss n. All (HoldsNumber ss n) kinds)
      (All-weaker (HoldsValues structs) (HoldsNumber (structs_seen structs) (length structs)) (holds-number structs (structs_seen structs) (agrees-all structs laid)) kinds all)

  pub types-have-numbers : (given kinds : List CType) → given ≡ kinds → All (Stands structs) kinds → All (HasNumber (structs_of table) table.begun) given
  types-have-numbers given kinds is all =
      subst (All (HasNumber (structs_of table) table.begun)) (sym is)
      (by-table (λ ss n. All (HasNumber ss n) kinds)
      (All-weaker (Stands structs) (HasNumber (structs_seen structs) (length structs)) (has-number structs (structs_seen structs) (agrees-all structs laid)) kinds all))

  pub globals-have-numbers : (given variables : List Variable) → given ≡ variables → All (VariableStands structs) variables → All (HoldsNumber (structs_of table) table.begun) (global_types given)
  globals-have-numbers given variables is all =
      subst (λ (vs : List Variable). All (HoldsNumber (structs_of table) table.begun) (global_types vs)) (sym is)
      (holds (global_types variables) (All-map (HoldsValues structs) (λ (v : Variable). v.kind) variables all))

  pub bodies-have-numbers : (given bodies : List Body) → given ≡ bodies → All (BodyStands structs) bodies → All (BodyHasNumbers (structs_of table) table.begun) given
  bodies-have-numbers given bodies is all =
      subst (All (BodyHasNumbers (structs_of table) table.begun)) (sym is)
      (All-weaker (BodyStands structs) (BodyHasNumbers (structs_of table) table.begun)
      (λ b stands. holds (local_types b.variables) (All-map (HoldsValues structs) (λ (v : BodyVariable). v.kind) b.variables stands)) bodies all)

-- ---- what is said of the last table

pub says : (state : State) (start one two three last : Types) (kinds : List TypeId) (binds : List Bind) (declared : List TypeId) (variables : List GlobalVariable) (bodies : List CheckedBody) (structs : List CheckedStruct)
    (global_items constants literals : List ℕ) (symbols : List Symbol) → Begun state.scope.structs last → Grows start one → AreStructs start structs state.scope.structs → global_items ≡ state.global_items → constants ≡ state.notes.constants → literals ≡ state.notes.literals
    → Grows one two → Grows two three → Grows three last
    → Number one kinds state.notes.kinds → binds ≡ state.notes.binds → Number two declared state.notes.declared → IsGlobals three variables state.scope.variables → AreBodies last bodies state.bodies
    → Says state (record { types = last; kinds = kinds; binds = binds; declared = declared; variables = variables; bodies = bodies; structs = structs; global_items = global_items; constants = constants; literals = literals; symbols = symbols })
says state start one two three last kinds binds declared variables bodies structs global_items constants literals symbols begun e known items words texts f g h ks bs ds vs are =
    let two-last : Grows two last = grows-then two three last g h in
    let one-last : Grows one last = grows-then one two last f two-last in
    record {
      structs = begun.seen;
      kinds = number-still one last one-last.extends kinds state.notes.kinds ks;
      binds = bs;
      declared = number-still two last two-last.extends declared state.notes.declared ds;
      variables = globals-still three last h.extends variables state.scope.variables vs;
      bodies = are;
      structs_known = known-still start last (grows-then start one last e one-last).extends structs state.scope.structs known;
      global_items = items;
      constants = words;
      literals = texts;
    }
