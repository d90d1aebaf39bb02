-- The first of all broken rules is that of the first node that breaks one.
use Rattle.std.proofs.Common.{◌≡◌, ap, sym, ◌∙◌, refl, subst, ℕ, Bool, false, List, [], ◌∷◌, ◌++◌, ◌⊎◌, inl, inr}
use Rattle.std.specs.Prelude.{flat_map, Contains}
use Rattle.std.proofs.lemmas.List.Elements.{Contains-append_right}
use Rattle.c_tree.specs.declared.tree.Tree.{Tree}
use Rattle.c_tree.specs.declared.tree.Item.{Item}
use Rattle.c_check_typing.specs.declared.fault.CheckKind.{CheckKind}
use Rattle.c_check_typing.specs.declared.fault.CheckKind.TheVariants.{TooLarge, LargeData}
use Rattle.c_check_typing.specs.declared.fault.Broken.{Broken}
use Rattle.c_check_typing.specs.Refusals.{breaks, broken_at, all_at, FirstIs}
use Rattle.c_check.specs.Accepted.{broken, at_first, is_too_large, is_data_large, after}
use Rattle.c_check.specs.Nodes.{Node, place_of, item_nodes, Listed}
use Rattle.c_check.specs.NodeRules.{rules_of, broken_by, SourceBreaks, NoneBreaks, FirstBreaks}
use Rattle.c_check.proofs.NodesListed.{contains_first, contains_cases, no_node}
use Rattle.c_check.proofs.NodesBroken.{in_order, whole_by}

none_more : (n : Node) (more : List Node) → rules_of n ≡ [] → NoneBreaks more → NoneBreaks (n ∷ more)
none_more n more e h node c = elim (contains_cases n node more c) [ inl is ↦ subst (λ (x : Node). rules_of x ≡ []) is e | inr d ↦ h node d ]

first_more : {first : Broken} (n : Node) (more : List Node) → rules_of n ≡ [] → FirstBreaks more first → FirstBreaks (n ∷ more) first
first_more n more e h = record {
  before = n ∷ h.before;
  node = h.node;
  behind = h.behind;
  are = ap (λ (l : List Node). n ∷ l) h.are;
  fine = none_more n h.before e h.fine;
  at = h.at;
  more = h.more;
  breaks = h.breaks;
}

abbrev First : List Node → List Broken → Broken → Type 0
First nodes rest first = FirstBreaks nodes first ⊎ (NoneBreaks nodes × FirstIs rest first)

later : {rest : List Broken} {first : Broken} (n : Node) (more : List Node) → rules_of n ≡ [] → First more rest first → First (n ∷ more) rest first
later n more e (inl h) = inl (first_more n more e h)
later n more e (inr h) = inr (none_more n more e h.0, h.1)

same_first : (x y : Broken) (xs ys : List Broken) → x ∷ xs ≡ y ∷ ys → x ≡ y
same_first x y xs ys e = cc

here : {first : Broken} (n : Node) (more : List Node) (kind : CheckKind) (kinds : List CheckKind) → rules_of n ≡ kind ∷ kinds → broken_at (place_of n) kind ≡ first → FirstBreaks (n ∷ more) first
here n more kind kinds e is = record {
  before = [];
  node = n;
  behind = more;
  are = refl;
  fine = λ node c. absurd (no_node node c);
  at = ap (λ (b : Broken). b.place) is;
  more = kinds;
  breaks = e ∙ ap (λ (b : Broken). b.kind ∷ kinds) is;
}

by_rules : (rest : List Broken) (first : Broken) (n : Node) (more : List Node) (kinds : List CheckKind) → rules_of n ≡ kinds
    → FirstIs ((all_at (place_of n) kinds ++ flat_map broken_by more) ++ rest) first → (FirstIs (flat_map broken_by more ++ rest) first → First more rest first) → First (n ∷ more) rest first
by_rules rest first n more [] e h go = later n more e (go h)
by_rules rest first n more (kind ∷ kinds) e h go = inl (here n more kind kinds e (same_first (broken_at (place_of n) kind) first ((all_at (place_of n) kinds ++ flat_map broken_by more) ++ rest) h.more h.is))

first_of : (rest : List Broken) (first : Broken) (nodes : List Node) → FirstIs (flat_map broken_by nodes ++ rest) first → First nodes rest first
first_of rest first [] h = inr (λ node c. absurd (no_node node c), h)
first_of rest first (n ∷ more) h = by_rules rest first n more (rules_of n) refl h (λ k. first_of rest first more k)

-- ---- sources

no_rules : (all : List Item) → at_first all [] ≡ []
no_rules [] = refl
no_rules (x ∷ more) = refl

first_contained : (xs : List Broken) (first : Broken) → FirstIs xs first → Contains xs first
first_contained xs first h = subst (λ (l : List Broken). Contains l first) (sym h.is) (contains_first first h.more)

module _ (tree : Tree) (room : ℕ) (nodes : List Node) (first : Broken) (listed : Listed (item_nodes tree) nodes) (fits : is_too_large tree room ≡ false) where
  abbrev last_rules : List CheckKind
  last_rules = breaks LargeData (is_data_large (after tree))

  abbrev first_rules : List CheckKind
  first_rules = breaks TooLarge (is_too_large tree room)

  none_first : at_first tree.items first_rules ≡ []
  none_first = ap (λ (b : Bool). at_first tree.items (breaks TooLarge b)) fits ∙ no_rules tree.items

  of_nodes : broken tree room ≡ flat_map broken_by nodes ++ at_first tree.items last_rules
  of_nodes = (in_order tree nodes listed).broken room ∙ ap (λ (l : List Broken). l ++ (flat_map broken_by nodes ++ at_first tree.items last_rules)) none_first

  of_source : FirstIs (at_first tree.items last_rules) first → SourceBreaks tree room first.place first.kind
  of_source h = whole_by tree room first.place first.kind tree.items last_rules refl (first_contained (at_first tree.items last_rules) first h) (λ k c. Contains-append_right first_rules last_rules k c)

  told : First nodes (at_first tree.items last_rules) first → FirstBreaks nodes first ⊎ (NoneBreaks nodes × SourceBreaks tree room first.place first.kind)
  told (inl h) = inl h
  told (inr h) = inr (h.0, of_source h.1)

  pub first_told : FirstIs (broken tree room) first → FirstBreaks nodes first ⊎ (NoneBreaks nodes × SourceBreaks tree room first.place first.kind)
  first_told h = told (first_of (at_first tree.items last_rules) first nodes (subst (λ (l : List Broken). FirstIs l first) of_nodes h))
