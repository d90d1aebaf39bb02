-- The elaboration goes through the parameters of a function as the checker does, and knows the function as it does.
use Rattle.std.proofs.Common.{◌≡◌, ℕ, suc, ◌+◌, ◌==◌, refl, sym, ap, ◌∙◌, subst, Bool, true, false, not, ◌&&◌, List, [], ◌∷◌, map, length, arith}
use Rattle.std.specs.Prelude.{Option, None, Some}
use Rattle.std.proofs.lemmas.Bool.Decides.{nat_tests}
use Rattle.mx_base.specs.declared.numbers.IntKind.{IntKind}
use Rattle.mx_base.specs.declared.numbers.IntKind.TheVariants.{I8, U8, I16, U16, I32, U32, I64, U64}
use Rattle.c_tree.specs.declared.tree.Base.{Base}
use Rattle.c_tree.specs.declared.tree.Base.TheVariants as b
use Rattle.c_tree.specs.declared.tree.Decl.{Decl}
use Rattle.c_types.specs.Types.{CType, Void, Int, Pointer, Array, Struct}
use Rattle.c_check_rules.specs.declared.names.Scope.{Scope}
use Rattle.c_check_rules.specs.Kinds.{same_kinds, same_integers}
use Rattle.c_check_rules.specs.Conversions.{is_scalar}
use Rattle.c_check_rules.specs.Names.{last_at, tags}
use Rattle.c_check_typing.specs.Rules.{base_kind, struct_kind}
use Rattle.c_check_statements.specs.declared.decls.Use.TheVariants as u
use Rattle.c_check_statements.specs.declared.counts.Counts.{Counts}
use Rattle.c_check_statements.specs.declared.state.State.{State}
use Rattle.c_check_statements.specs.Counts.{no_counts, counted}
use Rattle.c_check_statements.specs.Declarations.{misfits, plain_of, plain_kind, kind_by, kind_of, is_here, with_local, after_counts, kind_and_more, param_kinds, same_lists, parameter_declared}
use Rattle.c_check_statements.specs.Functions.{parameter}
use Rattle.c_check_statements.specs.Walks.{◌then◌, walk_all}
use Rattle.bounds_plan.specs.elaboration.Source.{Reached, Around, past_declaration}
use Rattle.bounds_plan.specs.elaboration.Expressions.{expression}
use Rattle.bounds_plan.specs.elaboration.Statements.{past_counts}
use Rattle.bounds_plan.specs.elaboration.Functions.{declared_all}
use Rattle.c_accepted.specs.Alike.{meanings_of, IsAt, Front}
use Rattle.c_accepted.proofs.Empty.{first_empty, second_empty}
use Rattle.c_accepted.proofs.Going.{front_then}
use Rattle.c_accepted.proofs.Declaring.{declares_well}
use Rattle.c_accepted.proofs.Moving.{Knows, Moves, moves_not, moves_then, knows_on, moves_as}
use Rattle.c_accepted.proofs.Stating.{local_moves, local_type}

-- ---- parameters

abbrev pub NoCounts : List Decl → Type 0
NoCounts [] = Unit {0}
NoCounts (d ∷ more) = (d.counts ≡ []) × NoCounts more

base_same : (s t : Scope) → s.structs ≡ t.structs → (base : Base) → base_kind s base ≡ base_kind t base
base_same s t e b.Void = refl
base_same s t e (b.Int kind) = refl
base_same s t e (b.Struct tag) = ap (λ structs. struct_kind (last_at tag (tags structs) 0 None)) e

plain_same : (s t : Scope) → s.structs ≡ t.structs → (d : Decl) → plain_of s d ≡ plain_of t d
plain_same s t e d = ap (plain_kind d.stars) (base_same s t e d.base)

pub params_same : (s t : Scope) → s.structs ≡ t.structs → (params : List Decl) → param_kinds s params ≡ param_kinds t params
params_same s t e [] = refl
params_same s t e (d ∷ more) = λ i. kind_and_more (plain_same s t e d i) (params_same s t e more i)

plain_alone : (plain : Option CType) (kind : CType) → kind_by plain (Some no_counts) ≡ Some kind → plain ≡ Some kind
plain_alone None kind e = cc
plain_alone (Some p) kind e = e

no_counts_here : (scope : Scope) (d : Decl) (counts : Counts) → d.counts ≡ [] → (counted scope (Some no_counts) d.counts).counts ≡ Some counts → Some no_counts ≡ Some counts
no_counts_here scope d counts none e = sym (ap (λ all. (counted scope (Some no_counts) all).counts) none) ∙ e

same_some : {X : Type 0} (x y : X) → Some x ≡ Some y → x ≡ y
same_some x y e = cc

-- a declaration without counts has the type of its base and stars
pub plain_declared : (scope : Scope) (d : Decl) (counts : Counts) (kind : CType) → d.counts ≡ [] → (counted scope (Some no_counts) d.counts).counts ≡ Some counts → kind_of scope d (Some counts) ≡ Some kind → plain_of scope d ≡ Some kind
plain_declared scope d counts kind none e k = plain_alone (plain_of scope d) kind (ap (λ c. kind_of scope d (Some c)) (same_some no_counts counts (no_counts_here scope d counts none e)) ∙ k)

-- parameters are scalars
abbrev pub AllScalar : List CType → Type 0
AllScalar [] = Unit {0}
AllScalar (t ∷ more) = (is_scalar t ≡ true) × AllScalar more

untold : (b : Bool) → not b ≡ false → b ≡ true
untold true h = refl
untold false h = cc

scalar_by : (scope : Scope) (plain : Option CType) (kind : CType) → plain ≡ Some kind → misfits u.Parameter scope.structs plain ≡ false → is_scalar kind ≡ true
scalar_by scope plain kind e h = untold (is_scalar kind) (subst (λ o. misfits u.Parameter scope.structs o ≡ false) e h)

pub record ParamsWell (around : Around) (params : List Decl) (old new : State) : Type 0 where
  pub moves : Moves around old new (length params) (λ r. (declared_all expression past_declaration params around r).after)
  pub types : (r : Reached) → Front (meanings_of new.notes) around.meanings → IsAt r (meanings_of old.notes) → (declared_all expression past_declaration params around r).types ≡ moves.grows.types
  pub plain : NoCounts params → param_kinds old.scope params ≡ Some moves.grows.types
  pub scalars : NoCounts params → AllScalar moves.grows.types

pub params_well : (params : List Decl) (state : State) (around : Around) → Knows around state → (walk_all (map parameter params) state).broken ≡ [] → ParamsWell around params state (walk_all (map parameter params) state).state
unfolding ◌then◌
params_well [] state around knows h = record { moves = moves_not around state; types = λ r w a. refl; plain = λ none. refl; scalars = λ none. tt }
params_well (d ∷ more) state around knows h =
    let known = declares_well u.Parameter (is_here d.name) false (with_local d.name) d state (first_empty (parameter_declared d state).broken _ h) in
    let mid = with_local d.name known.kind (after_counts state d) in let first = local_moves around d state known.kind known.goes in
    subst (λ st. (walk_all (map parameter more) st).broken ≡ [] → ParamsWell around (d ∷ more) state (walk_all (map parameter more) st).state) (sym known.next)
    (λ k. let new = (walk_all (map parameter more) mid).state in let rest = params_well more mid around (knows_on around state mid 1 knows first.grows) k in
    let back = λ (w : Front (meanings_of new.notes) around.meanings). front_then (meanings_of mid.notes) (meanings_of new.notes) around.meanings rest.moves.grows.on w in record {
      moves = moves_as around state new (1 + length more) (suc (length more)) _ (omega arith) (moves_then around state mid new 1 (length more) _ _ first rest.moves);
      types = λ r w a. (λ i. local_type around d state known.kind known.goes r (back w) a i ∷ rest.types (past_declaration (past_counts expression d around r)) w (first.at r (back w) a) i);
      plain = λ none. (λ i. kind_and_more (plain_declared state.scope d known.counts known.kind none.0 known.counted known.known i) ((params_same state.scope mid.scope refl more ∙ rest.plain none.1) i));
      scalars = λ none. (scalar_by state.scope (plain_of state.scope d) known.kind (plain_declared state.scope d known.counts known.kind none.0 known.counted known.known) known.fits, rest.scalars none.1);
    }) (second_empty (parameter_declared d state).broken _ h)

-- ---- types that are the same

same_int : (k l : IntKind) → same_integers k l ≡ true → k ≡ l
same_int I8 I8 h = refl
same_int U8 U8 h = refl
same_int I16 I16 h = refl
same_int U16 U16 h = refl
same_int I32 I32 h = refl
same_int U32 U32 h = refl
same_int I64 I64 h = refl
same_int U64 U64 h = refl
same_int _ _ h = cc

pub both_true : (a b : Bool) → (a && b) ≡ true → (a ≡ true) × (b ≡ true)
both_true true b h = (refl, h)
both_true false b h = cc

same_number : (n m : ℕ) → (n == m) ≡ true → n ≡ m
same_number n m h = grind (arith, nat_tests)

pub same_type : (a b : CType) → same_kinds a b ≡ true → a ≡ b
same_type Void Void h = refl
same_type (Int k) (Int l) h = ap Int (same_int k l h)
same_type (Pointer a) (Pointer b) h = ap Pointer (same_type a b h)
same_type (Array a n) (Array b m) h = let p = both_true (n == m) (same_kinds a b) h in (λ i. Array (same_type a b p.1 i) (same_number n m p.0 i))
same_type (Struct n) (Struct m) h = ap Struct (same_number n m h)
same_type _ _ h = cc

pub same_types : (xs ys : List CType) → same_lists xs ys ≡ true → xs ≡ ys
same_types [] [] h = refl
same_types [] (y ∷ ys) h = cc
same_types (x ∷ xs) [] h = cc
same_types (x ∷ xs) (y ∷ ys) h = let p = both_true (same_kinds x y) (same_lists xs ys) h in (λ i. same_type x y p.0 i ∷ same_types xs ys p.1 i)
