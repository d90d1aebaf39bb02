use Rattle.std.proofs.Common.{◌≡◌, IsTrue, rules, sym, ◌∙◌}
use Rattle.std.specs.Prelude.{codes}
use Rattle.mpx_words.specs.Words.{is_file_word}
use Rattle.mpx_words.proofs.OptionWords.{exec_found, exec_parts, exec_few}
use Rattle.mpx_words.proofs.options.exec_words.Goals as goal

pub returns-in-Options-clause-means : goal.returns-in-Options-clause-means
returns-in-Options-clause-means c =
    let named : c.in_ok-outer.outer.first.now ≡ codes "exec" = search rules in
    let is : IsTrue (is_file_word c.in_ok-outer.outer.last.now) = search rules in
    rw c.settings.ensures (exec_found _ _ _ _ _ c.in_ok-outer.ensures named is (sym c.before_file.ensures ∙ c.in-Options.is))

pub returns-in-Options-clause-few : goal.returns-in-Options-clause-few
returns-in-Options-clause-few c =
    let named : c.in_ok-outer.outer.first.now ≡ codes "exec" = search rules in
    let is : IsTrue (is_file_word c.in_ok-outer.outer.last.now) = search rules in
    rw c.settings.ensures (exec_few _ _ _ (exec_found _ _ _ _ _ c.in_ok-outer.ensures named is (sym c.before_file.ensures ∙ c.in-Options.is)))

pub returns-in_default : goal.returns-in_default
returns-in_default c = record {
  means = λ settings file h. let p = exec_parts _ _ _ _ settings file c.in_ok-outer.ensures h in
      c.in_default.not-Options p.picked (c.before_file.ensures ∙ p.seen);
  short = tt;
  few = tt;
}
