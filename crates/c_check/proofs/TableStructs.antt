-- Structs are added to a table one after another.
use Rattle.std.proofs.Common.{◌≡◌, ℕ, ◌+◌, ◌*◌, ◌<◌, ◌≤◌, List, [], ◌∷◌, ◌++◌, length, get_or, take, drop, refl, ap, sym, ◌∙◌, subst, arith}
use Rattle.std.specs.List.{All}
use Rattle.std.proofs.lemmas.List.{length_push, take_all, drop_all, length-take-le, length-map}
use Rattle.std.proofs.lemmas.List.Elements.{All-weaker}
use Rattle.c_types.specs.declared.shape.TypeId.{TypeId}
use Rattle.c_types.specs.Types.{CType, StructType, Ended, Types, no_types, type_at, structs_of, is_given, IsOpen, IsIn}
use Rattle.c_types.specs.Layouts.{CanStand, Extends}
use Rattle.c_types.proofs.Standing.{stands-stay}
use Rattle.c_check_rules.specs.declared.names.Member.{Member}
use Rattle.c_check_rules.specs.declared.names.StructInfo.{StructInfo}
use Rattle.c_check_statements.specs.Structs.{kinds_in, open_struct}
use Rattle.c_check.specs.declared.checked.CheckedStruct.{CheckedStruct}
use Rattle.c_check.specs.Checked.{Number, IsStruct, AreStructs}
use Rattle.c_check.specs.Standing.{structs_from, structs_seen, members_in_all, HoldsValues, IsLaid, AreLaid}
use Rattle.c_check.specs.Numbering.{HasNumber, HoldsNumber, KnowsMembers, Grows, HasStruct, struct_type}
use Rattle.c_check.proofs.TableGrowth.{structs-still, knows-still, number-still, extends-then}
use Rattle.c_check.proofs.TableSizes.{Agrees, agrees-none, agrees-open, agrees-closed, holds-number}
use Rattle.c_check.proofs.TableLists.{take-next, drop-next, can-all-stand, numbers-of}

-- ---- one struct

abbrev pub with_begun : Types → Types
with_begun table = record table { begun = table.begun + 1 }

abbrev pub with_ended : Types → (number : ℕ) → List TypeId → Types
with_ended table number ids = record table { ended = record { number = number; members = ids } ∷ table.ended }

pub begun-knows : (old opened : Types) → opened ≡ with_begun old → KnowsMembers old → KnowsMembers opened
begun-knows old opened is known = subst KnowsMembers (sym is) known

pub begun-numbers : (old opened : Types) (kinds : List CType) → opened ≡ with_begun old → All (HoldsNumber (structs_of old) (old.begun + 1)) kinds
    → All (HasNumber (structs_of opened) opened.begun) kinds
begun-numbers old opened kinds is all =
    subst (λ (t : Types). All (HasNumber (structs_of t) t.begun) kinds) (sym is) (numbers-of (structs_of old) (old.begun + 1) kinds all)

pub begun-room : (old opened : Types) (n : ℕ) → opened ≡ with_begun old → length old.shapes + n ≤ 4294967295 → length opened.shapes + n ≤ 4294967295
begun-room old opened n is room = subst (λ (t : Types). length t.shapes + n ≤ 4294967295) (sym is) room

pub stays-open : (opened grown : Types) (number : ℕ) → Grows opened grown → IsOpen opened number → IsOpen grown number
stays-open opened grown number g open_ =
    (subst (λ (b : ℕ). number < b) (sym g.begun) open_.0, ap (λ (es : List Ended). is_given es number) g.ended ∙ open_.1)

module _ (old opened grown new : Types) (info : StructInfo) (number : ℕ) (ids : List TypeId) (begun : opened ≡ with_begun old) (grows : Grows opened grown) (known : KnowsMembers old)
    (numbers : Number grown ids (kinds_in info.members)) where
  pub members-stand : All (HoldsNumber (structs_of old) (old.begun + 1)) (kinds_in info.members) → All (CanStand grown) ids
  members-stand all =
      can-all-stand opened grown ids (kinds_in info.members) grows (begun-knows old opened begun known) numbers
      (subst (λ (t : Types). All (HoldsNumber (structs_of t) t.begun) (kinds_in info.members)) (sym begun) all)

  pub members-long : length ids ≡ length info.members
  members-long = sym (length-map ids (type_at grown)) ∙ (ap length numbers.types ∙ length-map info.members (λ (m : Member). m.kind))

  pub struct-added : number ≡ old.begun → new ≡ with_ended grown number ids → HasStruct old new info
  struct-added same is = subst (λ (t : Types). HasStruct old t info) (sym is) (record {
    begun = grows.begun ∙ ap (λ (t : Types). t.begun) begun;
    structs =
        let rest : structs_of grown ≡ structs_of old = structs-still opened grown grows (begun-knows old opened begun known) ∙ ap structs_of begun in
        λ i. record { number = same i; members = numbers.types i } ∷ rest i;
    members = (numbers.in_table, knows-still opened grown grows (begun-knows old opened begun known));
  })

  pub struct-few : (n : ℕ) → length grown.shapes ≤ length opened.shapes + n → new ≡ with_ended grown number ids → length new.shapes ≤ length old.shapes + n
  struct-few n few is =
      let one : length new.shapes ≡ length grown.shapes = ap (λ (t : Types). length t.shapes) is in
      let two : length opened.shapes ≡ length old.shapes = ap (λ (t : Types). length t.shapes) begun in
      omega arith

  pub struct-known : Extends grown new → All (HoldsNumber (structs_of old) (old.begun + 1)) (kinds_in info.members) → IsStruct new ids (kinds_in info.members)
  struct-known h all = record {
    can_stand = All-weaker (CanStand grown) (CanStand new) (stands-stay grown new h) ids (members-stand all);
    types = (number-still grown new h ids (kinds_in info.members) numbers).types;
  }

-- ---- the members of structs by the numbers of their types

struct-still : (old new : Types) → Extends old new → (ids : List TypeId) (kinds : List CType) → IsStruct old ids kinds → IsStruct new ids kinds
struct-still old new h ids kinds s =
    let number : Number old ids kinds = record { in_table = All-weaker (CanStand old) (IsIn old) (λ t c. c.0) ids s.can_stand; types = s.types } in
    record { can_stand = All-weaker (CanStand old) (CanStand new) (stands-stay old new h) ids s.can_stand; types = (number-still old new h ids kinds number).types }

pub known-still : (old new : Types) → Extends old new → (cs : List CheckedStruct) (infos : List StructInfo) → AreStructs old cs infos → AreStructs new cs infos
known-still old new h [] [] are = tt
known-still old new h [] (s ∷ more) are = absurd are
known-still old new h (c ∷ cs) [] are = absurd are
known-still old new h (c ∷ cs) (s ∷ more) are = (struct-still old new h c.members (kinds_in s.members) are.0, known-still old new h cs more are.1)

known-push : (table : Types) (cs : List CheckedStruct) (infos : List StructInfo) (c : CheckedStruct) (s : StructInfo) → AreStructs table cs infos → IsStruct table c.members (kinds_in s.members)
    → AreStructs table (cs ++ c ∷ []) (infos ++ s ∷ [])
known-push table [] [] c s are one = (one, tt)
known-push table [] (x ∷ more) c s are one = absurd are
known-push table (x ∷ others) [] c s are one = absurd are
known-push table (x ∷ others) (y ∷ more) c s are one = (are.0, known-push table others more c s are.1 one)

pub known-more : (old new : Types) (cs more : List CheckedStruct) (structs : List StructInfo) (i : ℕ) (c : CheckedStruct) (s : StructInfo) → i < length structs → s ≡ get_or structs i s
    → Extends old new → AreStructs old cs (take i structs) → IsStruct new c.members (kinds_in s.members) → more ≡ cs ++ c ∷ [] → AreStructs new more (take (i + 1) structs)
known-more old new cs more structs i c s inside at h are one is =
    subst (λ (xs : List CheckedStruct). AreStructs new xs (take (i + 1) structs)) (sym is)
    (subst (AreStructs new (cs ++ c ∷ [])) (sym (take-next structs i s inside at)) (known-push new cs (take i structs) c s (known-still old new h cs (take i structs) are) one))

pub known-end : (table : Types) (cs : List CheckedStruct) (structs : List StructInfo) (i : ℕ) → AreStructs table cs (take i structs) → length structs ≤ i → AreStructs table cs structs
known-end table cs structs i are end = subst (AreStructs table cs) (take_all i structs end) are

-- ---- all structs

pub record Structs (table : Types) (structs : List StructInfo) (i : ℕ) : Type 0 where
  pub agree : Agrees (take i structs) (structs_of table)
  pub laid : AreLaid (take i structs) (drop i structs)
  pub seen : structs_from i (structs_of table) (drop i structs) ≡ structs_seen structs
  pub begun : table.begun ≡ i
  pub members : KnowsMembers table
  pub few : length table.shapes + 33024 * members_in_all (drop i structs) ≤ 33024 * members_in_all structs

pub structs-none : (table : Types) (structs : List StructInfo) → table ≡ no_types → AreLaid [] structs → Structs table structs 0
structs-none table structs is laid = subst (λ (t : Types). Structs t structs 0) (sym is) (record {
  agree = agrees-none;
  laid = laid;
  seen = refl;
  begun = refl;
  members = tt;
  few = omega arith;
})

laid-here : (structs : List StructInfo) (i : ℕ) (info : StructInfo) → AreLaid (take i structs) (drop i structs) → drop i structs ≡ info ∷ drop (i + 1) structs
    → IsLaid (take i structs) info × AreLaid (take i structs ++ info ∷ []) (drop (i + 1) structs)
laid-here structs i info laid is = subst (AreLaid (take i structs)) is laid

laid-few : (before structs : List StructInfo) → AreLaid before structs → length structs ≤ members_in_all structs
laid-few before [] laid = omega arith
laid-few before (s ∷ more) laid = omega (arith, laid.0.some, laid-few (before ++ s ∷ []) more laid.1)

module _ (table : Types) (structs : List StructInfo) (i : ℕ) (info : StructInfo) (h : Structs table structs i) (inside : i < length structs) (at : info ≡ get_or structs i info) where
  here : drop i structs ≡ info ∷ drop (i + 1) structs
  here = drop-next structs i info inside at

  long : length (take i structs) ≡ i
  long = length-take-le i structs (omega arith)

  is-laid : IsLaid (take i structs) info
  is-laid = (laid-here structs i info h.laid here).0

  pub struct-holds : All (HoldsNumber (structs_of table) (table.begun + 1)) (kinds_in info.members)
  struct-holds =
      let opened = take i structs ++ open_struct info.tag ∷ [] in
      let next : length opened ≡ table.begun + 1 = omega (arith, length_push (take i structs) (open_struct info.tag), long, h.begun) in
      subst (λ (n : ℕ). All (HoldsNumber (structs_of table) n) (kinds_in info.members)) next
      (All-weaker (HoldsValues opened) (HoldsNumber (structs_of table) (length opened))
      (holds-number opened (structs_of table) (agrees-open (take i structs) (structs_of table) info.tag h.agree)) (kinds_in info.members) is-laid.members)

  pub struct-some : 1 ≤ length info.members
  struct-some = is-laid.some

  pub struct-short : length info.members ≤ 32768
  struct-short = is-laid.few

  count : members_in_all (drop i structs) ≡ length info.members + members_in_all (drop (i + 1) structs)
  count = ap members_in_all here

  pub struct-begun : (before : List StructInfo) → AreLaid before structs → 33024 * members_in_all structs ≤ 4294967295 → table.begun < 4294967295
  struct-begun before laid room = omega (arith, laid-few before structs laid, h.begun)

  pub struct-room : 33024 * members_in_all structs ≤ 4294967295 → length table.shapes + 33024 * length info.members ≤ 4294967295
  struct-room room = omega (arith, h.few, count)

  pub structs-more : (new : Types) → HasStruct table new info → length new.shapes ≤ length table.shapes + 33024 * length info.members → Structs new structs (i + 1)
  structs-more new added few = record {
    agree =
        let number : length (take i structs) ≡ table.begun = long ∙ sym h.begun in
        subst (λ (s : List StructInfo). Agrees s (structs_of new)) (sym (take-next structs i info inside at))
        (subst (Agrees (take i structs ++ info ∷ [])) (sym added.structs)
        (subst (λ (n : ℕ). Agrees (take i structs ++ info ∷ []) (struct_type n info ∷ structs_of table)) number
        (agrees-closed (take i structs) (structs_of table) info h.agree is-laid)));
    laid = subst (λ (s : List StructInfo). AreLaid s (drop (i + 1) structs)) (sym (take-next structs i info inside at)) (laid-here structs i info h.laid here).1;
    seen =
        ap (λ (ss : List StructType). structs_from (i + 1) ss (drop (i + 1) structs)) added.structs
        ∙ (ap (λ (n : ℕ). structs_from (i + 1) (struct_type n info ∷ structs_of table) (drop (i + 1) structs)) h.begun
        ∙ (ap (structs_from i (structs_of table)) (sym here) ∙ h.seen));
    begun = added.begun ∙ ap (λ (n : ℕ). n + 1) h.begun;
    members = added.members;
    few = omega (arith, h.few, count);
  }

pub structs-end : (table : Types) (structs : List StructInfo) (i : ℕ) → Structs table structs i → length structs ≤ i → structs_of table ≡ structs_seen structs
structs-end table structs i h end = ap (structs_from i (structs_of table)) (sym (drop_all i structs end)) ∙ h.seen
