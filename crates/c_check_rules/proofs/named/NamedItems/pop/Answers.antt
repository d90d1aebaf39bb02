use Rattle.std.proofs.Common.{rules, ap, ◌∙◌}
use Rattle.std.specs.Map.{set_value}
use Rattle.c_check_rules.proofs.NamedLemmas.{has_name, items_popped, items_noted}
use Rattle.c_check_rules.proofs.named.NamedItems.pop.Goals as goal

pub invariant_of-self-in-Some-get_mut : goal.invariant_of-self-in-Some-get_mut
invariant_of-self-in-Some-get_mut g c =
    let name = g.T.HasName.name_of in
    let inside = c.self.inside in
    items_popped name inside.items.items c.pop.new.self.items c.in_ok-item.item inside.hidden.items c.pop-2.new.self.items c.in-Some.before inside.last.entries (c.get_mut.follows.lender c.in-Some.before).entries
    (search rules) (search rules)
    ((c.get_mut.follows.holds c.in-Some.before).0 ∙ ap (λ n. set_value (has_name n) inside.last.entries c.in-Some.before) c.name.ensures)
    c.self.invariant

pub invariant_of-self-in_default-get_mut : goal.invariant_of-self-in_default-get_mut
invariant_of-self-in_default-get_mut g c =
    let name = g.T.HasName.name_of in
    let inside = c.self.inside in
    absurd (items_noted name inside.items.items c.pop.new.self.items c.in_ok-item.item inside.hidden.items inside.last.entries (search rules) c.self.invariant (search rules))
