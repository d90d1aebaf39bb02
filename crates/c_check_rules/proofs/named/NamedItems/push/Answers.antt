use Rattle.std.proofs.Common.{sym, ap, ◌∙◌, map, length, None, ◌++◌, ◌∷◌, []}
use Rattle.c_check_rules.specs.Named.{last_at}
use Rattle.c_check_rules.proofs.NamedLemmas.{items_pushed}
use Rattle.c_check_rules.proofs.named.NamedItems.push.Goals as goal

pub invariant_of-self-2 : goal.invariant_of-self-2
invariant_of-self-2 g c =
    let name = g.T.HasName.name_of in
    let inside = c.self.inside in
    items_pushed name inside.items.items c.push_reserved.new.self.items c.args.item inside.hidden.items c.push_reserved-2.new.self.items c.find-before.result inside.last.entries c.insert.new.self.entries c.in_ok-name.name c.len-place.result
    (c.push_reserved.ensures.items ∙ ap (λ l. l ++ c.args.item ∷ []) c.in_ok-reserve.ensures.items)
    (c.push_reserved-2.ensures.items ∙ ap (λ l. l ++ c.find-before.result ∷ []) c.in_ok-reserve-2.ensures.items)
    c.in_ok-insert.ensures.entries
    (c.in_ok-name.ensures.items ∙ c.name-2.ensures)
    (c.len-place.ensures ∙ ap length (sym c.self.view_is))
    (c.find-before.ensures ∙ (ap (λ n. last_at n (map name c.args.self.now) 0 None) c.name.ensures ∙ ap (λ l. last_at (name c.args.item) (map name l) 0 None) (sym c.self.view_is)))
    c.self.invariant
