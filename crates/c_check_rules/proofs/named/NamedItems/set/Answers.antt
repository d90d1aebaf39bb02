use Rattle.std.proofs.Common.{◌≡◌, sym, subst, map, Some, slice_get}
use Rattle.c_check_rules.specs.Named.{IsIndex}
use Rattle.c_check_rules.proofs.NamedLemmas.{map_set}
use Rattle.c_check_rules.proofs.named.NamedItems.set.Goals as goal

pub invariant_of-self : goal.invariant_of-self
invariant_of-self g c =
    let name = g.T.HasName.name_of in
    let items = c.self.inside.items.items in
    subst (λ names. IsIndex names c.self.inside.hidden.items c.self.inside.last.entries) (sym (map_set name items c.args.at c.args.item (subst (λ l. slice_get (map name l) c.args.at ≡ Some (name c.args.item)) (sym c.self.view_is) c.requires))) c.self.invariant
