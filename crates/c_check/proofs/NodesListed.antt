-- What lists of nodes with all that is in them have: the rules that are broken in the nodes, and each node in them, and no other.
use Rattle.std.proofs.Common.{◌≡◌, ap, sym, ◌∙◌, refl, subst, ℕ, suc, ◌<◌, List, [], ◌∷◌, ◌++◌, length, append_assoc, arith, ◌⊎◌, inl, inr}
use Rattle.std.specs.Prelude.{flat_map, Contains, slice_index_or, zero}
use Rattle.std.proofs.lemmas.List.Concat.{flat_map-append}
use Rattle.std.proofs.lemmas.List.Elements.{Contains-append_left, Contains-append_right, Contains-append_cases}
use Rattle.c_check_typing.specs.declared.fault.Broken.{Broken}
use Rattle.c_check.specs.Nodes.{Node, parts_of, IsIn, itself, within, Listed, none, next}
use Rattle.c_check.specs.NodeRules.{broken_in, broken_by}

-- ---- the rules

module _ (parts_first : (node : Node) → broken_in node ≡ flat_map broken_in (parts_of node) ++ broken_by node) where
  pub listed_broken : {nodes all : List Node} → Listed nodes all → flat_map broken_in nodes ≡ flat_map broken_by all
  listed_broken none = refl
  listed_broken (next {node = node} {more = more} {inner = inner} {others = others} l m) =
      ap (λ (bs : List Broken). bs ++ flat_map broken_in more) (parts_first node)
      ∙ ap (λ (bs : List Broken). (bs ++ broken_by node) ++ flat_map broken_in more) (listed_broken l)
      ∙ ap (λ (bs : List Broken). (flat_map broken_by inner ++ broken_by node) ++ bs) (listed_broken m)
      ∙ append_assoc (flat_map broken_by inner) (broken_by node) (flat_map broken_by others)
      ∙ sym (flat_map-append broken_by inner (node ∷ others))

-- ---- the nodes

pub contains_first : {A : Type 0} (x : A) (xs : List A) → Contains (x ∷ xs) x
contains_first x xs = Contains-append_left (x ∷ []) xs x (0, omega arith, refl)

pub contains_later : {A : Type 0} (y x : A) (xs : List A) → Contains xs x → Contains (y ∷ xs) x
contains_later y x xs h = Contains-append_right (y ∷ []) xs x h

nothing_later : {A : Type 0} (y x : A) (k : ℕ) → suc k < 1 → y ≡ x
nothing_later y x k h = absurd (omega arith)

contains_only : {A : Type 0} (y x : A) (k : ℕ) → k < length (y ∷ []) → slice_index_or (y ∷ []) k x ≡ x → y ≡ x
contains_only y x zero h e = e
contains_only y x (suc k) h e = nothing_later y x k h

pub contains_cases : {A : Type 0} (y x : A) (xs : List A) → Contains (y ∷ xs) x → (y ≡ x) ⊎ Contains xs x
contains_cases y x xs h = elim (Contains-append_cases (y ∷ []) xs x h) [ inl c ↦ inl (contains_only y x c.0 c.1 c.2) | inr c ↦ inr c ]

-- a node in one of these
abbrev InOne : List Node → Node → Type 0
InOne nodes node = (top : Node) × Contains nodes top × IsIn node top

in_more : {node : Node} (n : Node) (more : List Node) → InOne more node → InOne (n ∷ more) node
in_more n more h = (h.0, contains_later n h.0 more h.1, h.2)

in_part : {node : Node} (n : Node) (more : List Node) → InOne (parts_of n) node → InOne (n ∷ more) node
in_part n more h = (n, contains_first n more, within h.1 h.2)

here : {node : Node} (n : Node) (more : List Node) → n ≡ node → InOne (n ∷ more) node
here n more e = (n, contains_first n more, subst (λ (x : Node). IsIn x n) e itself)

pub listed_are_in : {nodes all : List Node} (node : Node) → Listed nodes all → Contains all node → InOne nodes node
listed_are_in node none h = (node, h, itself)
listed_are_in node (next {node = n} {more = more} {inner = inner} {others = others} l m) h = elim (Contains-append_cases inner (n ∷ others) node h) [
  | inl c ↦ in_part n more (listed_are_in node l c)
  | inr c ↦ elim (contains_cases n node others c) [ inl e ↦ here n more e | inr d ↦ in_more n more (listed_are_in node m d) ]
]

-- what is in a node stands in its list, or is the node itself
pub no_node : {A : Type 0} (x : A) → Contains [] x → ⊥
no_node x h = let k : h.0 < 0 = h.1 in omega arith

taken : {node whole : Node} → IsIn node whole → (whole ≡ node) ⊎ InOne (parts_of whole) node
taken itself = inl refl
taken (within {part = part} c i) = inr (part, c, i)

in_the_middle : {node : Node} (n : Node) (inner others : List Node) → n ≡ node → Contains (inner ++ n ∷ others) node
in_the_middle {node = node} n inner others e = Contains-append_right inner (n ∷ others) node (subst (λ (x : Node). Contains (n ∷ others) x) e (contains_first n others))

pub all_are_listed : {nodes all : List Node} (node top : Node) → Listed nodes all → Contains nodes top → IsIn node top → Contains all node
all_are_listed node top none c i = absurd (no_node top c)
all_are_listed node top (next {node = n} {more = more} {inner = inner} {others = others} l m) c i = elim (contains_cases n top more c) [
  | inl e ↦ elim (taken (subst (λ (x : Node). IsIn node x) (sym e) i)) [
    | inl h ↦ in_the_middle n inner others h
    | inr h ↦ Contains-append_left inner (n ∷ others) node (all_are_listed node h.0 l h.1 h.2)
  ]
  | inr d ↦ Contains-append_right inner (n ∷ others) node (contains_later n node others (all_are_listed node top m d i))
]

-- ---- there is one list

pub one_list : {nodes xs ys : List Node} → Listed nodes xs → Listed nodes ys → xs ≡ ys
one_list none none = refl
one_list (next {node = n} l m) (next l' m') = λ i. one_list l l' i ++ n ∷ one_list m m' i
