-- What a declaration makes known stands.
use Rattle.std.proofs.Common.{◌≡◌, ℕ, ◌+◌, ◌≤◌, refl, sym, ap, ◌∙◌, Bool, true, false, not, ◌&&◌, ◌||◌, if◌then◌else◌, is_some, Option, None, Some, List, [], ◌∷◌, ◌++◌, map, length, arith}
use Rattle.std.proofs.lemmas.List.{length_push}
use Rattle.c_tree.specs.declared.tree.Decl.{Decl}
use Rattle.c_tree.specs.declared.tree.Expr.{Expr}
use Rattle.c_tree.specs.Count as count
use Rattle.c_tree.specs.Stars as star
use Rattle.c_types.specs.Types.{CType, Void, Int, Pointer, Array, Struct}
use Rattle.c_check_rules.specs.declared.constants.Constant.{Constant}
use Rattle.c_check_rules.specs.declared.constants.Constant.TheVariants as c
use Rattle.c_check_rules.specs.declared.names.Scope.{Scope}
use Rattle.c_check_rules.specs.declared.names.StructInfo.{StructInfo}
use Rattle.c_check_rules.specs.Sizes.{is_sized}
use Rattle.c_check_rules.specs.Conversions.{is_scalar}
use Rattle.c_check_typing.specs.declared.typed.Typed.{Typed}
use Rattle.c_check_typing.specs.declared.fault.CheckKind.{CheckKind}
use Rattle.c_check_typing.specs.declared.fault.CheckKind.TheVariants.{Unknown, Twice, BadCount, NotConst, BadType}
use Rattle.c_check_typing.specs.Refusals.{breaks}
use Rattle.c_check_typing.specs.Notes.{Seen}
use Rattle.c_check_typing.specs.Rules.{base_kind}
use Rattle.c_check_typing.specs.Expressions.{seen}
use Rattle.c_check_statements.specs.declared.counts.Counts.{Counts}
use Rattle.c_check_statements.specs.declared.decls.Use.{Use}
use Rattle.c_check_statements.specs.declared.decls.Use.TheVariants as u
use Rattle.c_check_statements.specs.Counts.{is_plain, values_after, arrayed, Counted, next_counts, counted}
use Rattle.c_check_statements.specs.Declarations.{fits_use, plain_kind, kind_by, plain_of, kind_of, has_out, has_open, has_odd, is_oversized, misfits, decl_kinds, accepted}
use Rattle.c_check.proofs.Emptied.{first_empty, second_empty, not_broken, neither}
use Rattle.c_check.proofs.Growing.{same_value}
use Rattle.c_check.proofs.StandingScopes.{ScopeBy}
use Rattle.c_check.proofs.StandingExpressions.{AfterBy, after_none, after_both, GoodSeen, expr_good}

-- ---- counts

abbrev pub counts_long : Option Counts → ℕ
counts_long None = 0
counts_long (Some counts) = length counts.values

-- counts behind these
pub record GoodCounts (structs : List StructInfo) (most n : ℕ) (before : Option Counts) (w : Counted) : Type 0 where
  pub after : AfterBy structs most n w.after
  pub long : counts_long w.counts ≤ counts_long before + n
  pub whole : w.broken ≡ [] → is_some before ≡ true → is_some w.counts ≡ true

values_long : (values : List ℕ) (constant : Constant) → length (values_after values constant) ≤ length values + 1
values_long values (c.Value w) = omega (arith, length_push values w)
values_long values c.Stops = omega arith
values_long values c.No = omega arith

next_long : (counts : Option Counts) (t : Option Typed) → counts_long (next_counts counts t) ≤ counts_long counts + 1
next_long None t = omega arith
next_long (Some counts) None = omega arith
next_long (Some counts) (Some t) = values_long counts.values t.constant

next_whole : (counts : Option Counts) (t : Option Typed) → is_some counts ≡ true → is_some t ≡ true → is_some (next_counts counts t) ≡ true
next_whole None t h g = cc
next_whole (Some counts) None h g = cc
next_whole (Some counts) (Some t) h g = refl

pub counts_good : (scope : Scope) (most : ℕ) → 1 ≤ most → ScopeBy most scope → (xs : List Expr) → star.most (map star.expr_stars xs) ≤ most → (before : Option Counts)
    → GoodCounts scope.structs most (count.total (map count.expr_nodes xs)) before (counted scope before xs)
counts_good scope most some h [] le before = record { after = after_none scope.structs most; long = omega arith; whole = λ e g. g }
counts_good scope most some h (x ∷ more) le before =
    let a : Seen = seen x false scope in
    let good = expr_good x in
    let one : GoodSeen scope.structs most (count.expr_nodes x) a = good.1 scope most false some h (omega arith) in
    let next : Option Counts = next_counts before a.typed in
    let rest = counts_good scope most some h more (omega arith) next in
    let long = rest.long in
    let here = next_long before a.typed in
    let node = good.0 in
    record {
      after = after_both scope.structs most (count.expr_nodes x) _ a.after (counted scope next more).after one.after rest.after;
      long = omega (arith, long, here, node);
      whole = λ e g. rest.whole (second_empty a.broken (counted scope next more).broken e) (next_whole before a.typed g (one.whole (first_empty a.broken (counted scope next more).broken e)));
    }

-- ---- the type

accepted_kind : (kinds : List CheckKind) (kind : Option CType) (k : CType) → accepted kinds kind ≡ Some k → (kinds ≡ []) × (kind ≡ Some k)
accepted_kind [] kind k h = (refl, h)
accepted_kind (x ∷ more) kind k h = cc

pub truth : (b : Bool) → not b ≡ false → b ≡ true
truth true h = refl
truth false h = cc

scalar_sized : (structs : List StructInfo) (t : CType) → is_scalar t ≡ true → is_sized structs t ≡ true
scalar_sized structs Void h = cc
scalar_sized structs (Int kind) h = refl
scalar_sized structs (Pointer t) h = refl
scalar_sized structs (Array t count) h = cc
scalar_sized structs (Struct n) h = cc

-- a use of which there are values
abbrev pub IsValue : Use → Type 0
IsValue u.Variable = Unit {0}
IsValue u.Parameter = Unit {0}
IsValue u.Result = ⊥

pub use_sized : (usage : Use) (structs : List StructInfo) (t : CType) → IsValue usage → fits_use usage structs t ≡ true → is_sized structs t ≡ true
use_sized u.Variable structs t v h = h
use_sized u.Parameter structs t v h = scalar_sized structs t h
use_sized u.Result structs t v h = absurd v

-- the parts of which the type of a declaration that breaks no rule is made
pub record KindParts (scope : Scope) (usage : Use) (d : Decl) (counts : Option Counts) (k : CType) : Type 0 where
  pub plain : CType
  pub values : Counts
  pub plain_is : plain_of scope d ≡ Some plain
  pub values_is : counts ≡ Some values
  pub arrayed_is : arrayed values.values plain ≡ k
  pub fits : fits_use usage scope.structs plain ≡ true
  pub sized : is_sized scope.structs plain ≡ true → is_sized scope.structs k ≡ true

sized_too : (a b : Bool) → (a && not b) ≡ false → a ≡ true → b ≡ true
sized_too true b h g = truth b h
sized_too false b h g = cc

with_is : (counts : Counts) (plain k : CType) (b : Bool) → (if b then Some (arrayed counts.values plain) else None) ≡ Some k → arrayed counts.values plain ≡ k
with_is counts plain k true h = same_value (arrayed counts.values plain) k h
with_is counts plain k false h = cc

module _ (scope : Scope) (usage : Use) (twice wrong : Bool) (d : Decl) (counts : Option Counts) where
  abbrev unknown : Bool
  unknown = not (is_some (base_kind scope d.base))

  abbrev over : Bool
  over = has_out counts || is_oversized scope.structs (plain_of scope d) (kind_of scope d counts)

  abbrev bad : Bool
  bad = has_odd counts || (misfits usage scope.structs (plain_of scope d) || wrong)

  behind_unknown : List CheckKind
  behind_unknown = breaks Twice twice ++ (breaks BadCount over ++ (breaks NotConst (has_open counts) ++ breaks BadType bad))

  record NoneBroken : Type 0 where
    known : unknown ≡ false
    within : over ≡ false
    constant : has_open counts ≡ false
    typed : bad ≡ false

  none_broken : decl_kinds scope usage twice wrong d counts ≡ [] → NoneBroken
  none_broken h =
      let a = second_empty (breaks Unknown unknown) _ h in
      let b = second_empty (breaks Twice twice) _ a in
      let e = second_empty (breaks BadCount over) _ b in
      record {
        known = not_broken Unknown unknown (first_empty (breaks Unknown unknown) _ h);
        within = not_broken BadCount over (first_empty (breaks BadCount over) _ b);
        constant = not_broken NotConst (has_open counts) (first_empty (breaks NotConst (has_open counts)) _ e);
        typed = not_broken BadType bad (second_empty (breaks NotConst (has_open counts)) _ e);
      }

  parts_of : (plain : Option CType) (values : Option Counts) (k : CType) → plain_of scope d ≡ plain → counts ≡ values → kind_by plain values ≡ Some k → kind_of scope d counts ≡ Some k → NoneBroken → KindParts scope usage d counts k
  parts_of None values k p v h g n = cc
  parts_of (Some plain) None k p v h g n = cc
  parts_of (Some plain) (Some values) k p v h g n =
      let over_not : is_oversized scope.structs (plain_of scope d) (kind_of scope d counts) ≡ false = (neither (has_out counts) _ n.within).1 in
      let fit_not : misfits usage scope.structs (plain_of scope d) ≡ false = (neither _ wrong (neither (has_odd counts) _ n.typed).1).0 in
      let over_is : is_oversized scope.structs (Some plain) (Some k) ≡ false = ap (λ o. is_oversized scope.structs o (Some k)) (sym p) ∙ (ap (is_oversized scope.structs (plain_of scope d)) (sym g) ∙ over_not) in
      let fit_is : misfits usage scope.structs (Some plain) ≡ false = ap (misfits usage scope.structs) (sym p) ∙ fit_not in
      record {
        plain = plain;
        values = values;
        plain_is = p;
        values_is = v;
        arrayed_is = with_is values plain k (is_plain values) h;
        fits = truth (fits_use usage scope.structs plain) fit_is;
        sized = sized_too (is_sized scope.structs plain) (is_sized scope.structs k) over_is;
      }

  pub kind_parts : (k : CType) → accepted (decl_kinds scope usage twice wrong d counts) (kind_of scope d counts) ≡ Some k → KindParts scope usage d counts k
  kind_parts k h =
      let both = accepted_kind (decl_kinds scope usage twice wrong d counts) (kind_of scope d counts) k h in
      parts_of (plain_of scope d) counts k refl refl both.1 both.1 (none_broken both.0)

  -- ---- a declaration that breaks no rule has a type

  made_plain : (base : Option CType) → is_some base ≡ true → is_some (plain_kind d.stars base) ≡ true
  made_plain None h = cc
  made_plain (Some t) h = refl

  plain_if : (values : Counts) → has_out (Some values) ≡ false → has_open (Some values) ≡ false → has_odd (Some values) ≡ false → is_plain values ≡ true
  plain_if values h g k = rw (h, g, k) refl

  made_kind : (plain : Option CType) (values : Option Counts) → is_some plain ≡ true → is_some values ≡ true → has_out values ≡ false → has_open values ≡ false → has_odd values ≡ false → is_some (kind_by plain values) ≡ true
  made_kind None values p v h g k = cc
  made_kind (Some plain) None p v h g k = cc
  made_kind (Some plain) (Some values) p v h g k = ap (λ b. is_some (if b then Some (arrayed values.values plain) else None)) (plain_if values h g k)

  pub kind_made : is_some counts ≡ true → (kinds : List CheckKind) → decl_kinds scope usage twice wrong d counts ≡ kinds → kinds ≡ [] → is_some (accepted kinds (kind_of scope d counts)) ≡ true
  kind_made v (x ∷ more) e h = cc
  kind_made v [] e h =
      let n = none_broken e in
      made_kind (plain_of scope d) counts (made_plain (base_kind scope d.base) (truth (is_some (base_kind scope d.base)) n.known)) v (neither (has_out counts) _ n.within).0 n.constant (neither (has_odd counts) _ n.typed).0
