-- A pair of place and rule is in the list of all broken rules exactly where its node breaks that rule.
use Rattle.std.proofs.Common.{◌≡◌, ap, sym, ◌∙◌, refl, subst, ℕ, List, [], ◌∷◌, ◌++◌, ◌⊎◌, inl, inr, ◌↔◌}
use Rattle.std.specs.Prelude.{flat_map, Contains}
use Rattle.std.proofs.lemmas.List.Elements.{Contains-append_left, Contains-append_right, Contains-append_cases}
use Rattle.mx_base.specs.declared.places.Place.{Place}
use Rattle.c_tree.specs.declared.tree.Tree.{Tree}
use Rattle.c_tree.specs.declared.tree.Item.{Item}
use Rattle.c_check_typing.specs.declared.fault.CheckKind.{CheckKind}
use Rattle.c_check_typing.specs.declared.fault.CheckKind.TheVariants.{TooLarge, LargeData}
use Rattle.c_check_typing.specs.declared.fault.Broken.{Broken}
use Rattle.c_check_typing.specs.Refusals.{breaks, broken_at, all_at}
use Rattle.c_check_statements.specs.Sources.{items, at_start}
use Rattle.c_check.specs.Accepted.{IsAccepted, broken, at_first, is_too_large, is_data_large, after}
use Rattle.c_check.specs.Nodes.{Node, place_of, item_nodes, IsInTree, Listed}
use Rattle.c_check.specs.NodeRules.{rules_of, broken_by, NodeBreaks, SourceBreaks, BreaksNoRule, InTreeOrder}
use Rattle.c_check.proofs.NodesListed.{contains_first, contains_later, contains_cases, no_node, listed_broken, listed_are_in, all_are_listed}
use Rattle.c_check.proofs.NodesParts.{parts_first, items_broken}
use Rattle.c_check.proofs.NodesEvery.{tree_has}
use Rattle.c_check.proofs.NodesCount.{listed_count}

-- ---- lists of broken rules

pub rule_at : (place at : Place) (kinds : List CheckKind) (kind : CheckKind) → Contains (all_at place kinds) (broken_at at kind) → (place ≡ at) × Contains kinds kind
rule_at place at [] kind h = absurd (no_node (broken_at at kind) h)
rule_at place at (k ∷ more) kind h = elim (contains_cases (broken_at place k) (broken_at at kind) (all_at place more) h) [
  | inl e ↦ (ap (λ (b : Broken). b.place) e, subst (λ (x : CheckKind). Contains (k ∷ more) x) (ap (λ (b : Broken). b.kind) e) (contains_first k more))
  | inr d ↦ let rest : (place ≡ at) × Contains more kind = rule_at place at more kind d in (rest.0, contains_later k kind more rest.1)
]

at_rule : (place : Place) (kinds : List CheckKind) (kind : CheckKind) → Contains kinds kind → Contains (all_at place kinds) (broken_at place kind)
at_rule place [] kind h = absurd (no_node kind h)
at_rule place (k ∷ more) kind h = elim (contains_cases k kind more h) [
  | inl e ↦ subst (λ (x : CheckKind). Contains (all_at place (k ∷ more)) (broken_at place x)) e (contains_first (broken_at place k) (all_at place more))
  | inr d ↦ contains_later (broken_at place k) (broken_at place kind) (all_at place more) (at_rule place more kind d)
]

of_node : (nodes : List Node) (b : Broken) → Contains (flat_map broken_by nodes) b → (node : Node) × Contains nodes node × Contains (broken_by node) b
of_node [] b h = absurd (no_node b h)
of_node (n ∷ more) b h = elim (Contains-append_cases (broken_by n) (flat_map broken_by more) b h) [
  | inl c ↦ (n, contains_first n more, c)
  | inr d ↦ let rest : (node : Node) × Contains more node × Contains (broken_by node) b = of_node more b d in (rest.0, contains_later n rest.0 more rest.1, rest.2)
]

of_nodes : (nodes : List Node) (node : Node) (b : Broken) → Contains nodes node → Contains (broken_by node) b → Contains (flat_map broken_by nodes) b
of_nodes [] node b h c = absurd (no_node node h)
of_nodes (n ∷ more) node b h c = elim (contains_cases n node more h) [
  | inl e ↦ Contains-append_left (broken_by n) (flat_map broken_by more) b (subst (λ (x : Node). Contains (broken_by x) b) (sym e) c)
  | inr d ↦ Contains-append_right (broken_by n) (flat_map broken_by more) b (of_nodes more node b d c)
]

-- ---- all nodes of a source

module _ (tree : Tree) (nodes : List Node) (listed : Listed (item_nodes tree) nodes) where
  all_in : (node : Node) → Contains nodes node ↔ IsInTree tree node
  all_in node = (listed_are_in node listed, λ h. all_are_listed node h.0 listed h.1 h.2)

  all_broken : (items tree.items at_start).broken ≡ flat_map broken_by nodes
  all_broken = items_broken tree ∙ listed_broken parts_first listed

  pub in_order : InTreeOrder tree nodes
  in_order = record {
    listed = listed;
    are_in = all_in;
    count = listed_count tree nodes listed;
    broken = λ room. ap (λ (l : List Broken). at_first tree.items (breaks TooLarge (is_too_large tree room)) ++ (l ++ at_first tree.items (breaks LargeData (is_data_large (after tree))))) all_broken;
  }

pub tree_in_order : (tree : Tree) → (nodes : List Node) × InTreeOrder tree nodes
tree_in_order tree = ((tree_has tree).0, in_order tree (tree_has tree).0 (tree_has tree).1)

-- ---- rules of the whole source

module _ (tree : Tree) (room : ℕ) (place : Place) (kind : CheckKind) where
  abbrev first_rules : List CheckKind
  first_rules = breaks TooLarge (is_too_large tree room)

  abbrev last_rules : List CheckKind
  last_rules = breaks LargeData (is_data_large (after tree))

  pub whole_by : (all : List Item) (kinds : List CheckKind) → tree.items ≡ all → Contains (at_first all kinds) (broken_at place kind)
      → ((k : CheckKind) → Contains kinds k → Contains (first_rules ++ last_rules) k) → SourceBreaks tree room place kind
  whole_by [] kinds e h among = absurd (no_node (broken_at place kind) h)
  whole_by (x ∷ more) kinds e h among = let r : (x.place ≡ place) × Contains kinds kind = rule_at x.place place kinds kind h in
      record { first = x; more = more; items = e; at = r.0; breaks = among kind r.1 }

  pub told_at_first : SourceBreaks tree room place kind → (kinds : List CheckKind) → Contains kinds kind → Contains (at_first tree.items kinds) (broken_at place kind)
  told_at_first s kinds h = subst (λ (all : List Item). Contains (at_first all kinds) (broken_at place kind)) (sym s.items)
      (subst (λ (p : Place). Contains (all_at s.first.place kinds) (broken_at p kind)) s.at (at_rule s.first.place kinds kind h))

  abbrev Breaks : Type 0
  Breaks = NodeBreaks tree place kind ⊎ SourceBreaks tree room place kind

  abbrev b : Broken
  b = broken_at place kind

  module _ (nodes : List Node) (o : InTreeOrder tree nodes) where
    from_node : Contains (flat_map broken_by nodes) b → NodeBreaks tree place kind
    from_node h = let k : (node : Node) × Contains nodes node × Contains (broken_by node) b = of_node nodes b h in
        let r : (place_of k.0 ≡ place) × Contains (rules_of k.0) kind = rule_at (place_of k.0) place (rules_of k.0) kind k.2 in
        record { node = k.0; in_tree = (o.are_in k.0).0 k.1; at = r.0; breaks = r.1 }

    to_node : NodeBreaks tree place kind → Contains (flat_map broken_by nodes) b
    to_node n = of_nodes nodes n.node b ((o.are_in n.node).1 n.in_tree)
        (subst (λ (p : Place). Contains (broken_by n.node) (broken_at p kind)) n.at (at_rule (place_of n.node) (rules_of n.node) kind n.breaks))

    broken_is : Contains (broken tree room) b → Breaks
    broken_is h = elim (Contains-append_cases (at_first tree.items first_rules) (flat_map broken_by nodes ++ at_first tree.items last_rules) b (subst (λ (l : List Broken). Contains l b) (o.broken room) h)) [
      | inl c ↦ inr (whole_by tree.items first_rules refl c (λ k d. Contains-append_left first_rules last_rules k d))
      | inr c ↦ elim (Contains-append_cases (flat_map broken_by nodes) (at_first tree.items last_rules) b c) [
        | inl d ↦ inl (from_node d)
        | inr d ↦ inr (whole_by tree.items last_rules refl d (λ k d. Contains-append_right first_rules last_rules k d))
      ]
    ]

    among : Contains (at_first tree.items first_rules ++ (flat_map broken_by nodes ++ at_first tree.items last_rules)) b → Contains (broken tree room) b
    among h = subst (λ (l : List Broken). Contains l b) (sym (o.broken room)) h

    node_among : NodeBreaks tree place kind → Contains (broken tree room) b
    node_among n = among (Contains-append_right (at_first tree.items first_rules) (flat_map broken_by nodes ++ at_first tree.items last_rules) b
        (Contains-append_left (flat_map broken_by nodes) (at_first tree.items last_rules) b (to_node n)))

    source_among : SourceBreaks tree room place kind → Contains (broken tree room) b
    source_among s = elim (Contains-append_cases first_rules last_rules kind s.breaks) [
      | inl c ↦ among (Contains-append_left (at_first tree.items first_rules) (flat_map broken_by nodes ++ at_first tree.items last_rules) b (told_at_first s first_rules c))
      | inr c ↦ among (Contains-append_right (at_first tree.items first_rules) (flat_map broken_by nodes ++ at_first tree.items last_rules) b
          (Contains-append_right (flat_map broken_by nodes) (at_first tree.items last_rules) b (told_at_first s last_rules c)))
    ]

    is_broken : Breaks → Contains (broken tree room) b
    is_broken (inl n) = node_among n
    is_broken (inr s) = source_among s

  pub broken_exactly : Contains (broken tree room) (broken_at place kind) ↔ NodeBreaks tree place kind ⊎ SourceBreaks tree room place kind
  broken_exactly = let t : (nodes : List Node) × InTreeOrder tree nodes = tree_in_order tree in (broken_is t.0 t.1, is_broken t.0 t.1)

-- ---- accepted sources

nothing_in : {A : Type 0} (xs : List A) → ((x : A) → Contains xs x → ⊥) → xs ≡ []
nothing_in [] h = refl
nothing_in (x ∷ more) h = absurd (h x (contains_first x more))

not_in : {A : Type 0} (xs : List A) (x : A) → xs ≡ [] → Contains xs x → ⊥
not_in {A = A} xs x e h = no_node x (subst (λ (l : List A). Contains l x) e h)

module _ (tree : Tree) (room : ℕ) where
  abbrev whole_rules : List CheckKind
  whole_rules = breaks TooLarge (is_too_large tree room) ++ breaks LargeData (is_data_large (after tree))

  accepted_node : IsAccepted tree room → (node : Node) → IsInTree tree node → (kind : CheckKind) → Contains (rules_of node) kind → ⊥
  accepted_node e node i kind h = not_in (broken tree room) (broken_at (place_of node) kind) e
      ((broken_exactly tree room (place_of node) kind).1 (inl record { node = node; in_tree = i; at = refl; breaks = h }))

  accepted_whole : (all : List Item) → tree.items ≡ all → IsAccepted tree room → (b : Broken) → Contains (at_first all whole_rules) b → ⊥
  accepted_whole [] items e b h = no_node b h
  accepted_whole (x ∷ more) items e b h = let r : (x.place ≡ b.place) × Contains whole_rules b.kind = rule_at x.place b.place whole_rules b.kind h in
      not_in (broken tree room) (broken_at x.place b.kind) e
      ((broken_exactly tree room x.place b.kind).1 (inr record { first = x; more = more; items = items; at = refl; breaks = r.1 }))

  breaks_none : IsAccepted tree room → BreaksNoRule tree room
  breaks_none e = record {
    nodes = λ node i. nothing_in (rules_of node) (accepted_node e node i);
    whole = nothing_in (at_first tree.items whole_rules) (accepted_whole tree.items refl e);
  }

  none_of : BreaksNoRule tree room → (b : Broken) → NodeBreaks tree b.place b.kind ⊎ SourceBreaks tree room b.place b.kind → ⊥
  none_of h b (inl n) = not_in (rules_of n.node) b.kind (h.nodes n.node n.in_tree) n.breaks
  none_of h b (inr s) = not_in (at_first tree.items whole_rules) b h.whole (told_at_first tree room b.place b.kind s whole_rules s.breaks)

  is_accepted : BreaksNoRule tree room → IsAccepted tree room
  is_accepted h = nothing_in (broken tree room) (λ b c. none_of h b ((broken_exactly tree room b.place b.kind).0 c))

  pub accepted_exactly : IsAccepted tree room ↔ BreaksNoRule tree room
  accepted_exactly = (breaks_none, is_accepted)
