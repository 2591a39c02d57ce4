use Rattle.ob_words.proofs.Numbers.{named}
use Rattle.ob_words.proofs.work.params_in.Goals as goal

pub returns : goal.returns
returns c = named _ _ _ _ _ _ _ _ _ _ (
  c.number_in.ensures,
  (
    c.number_in-2.ensures,
    (
      c.number_in-3.ensures,
      (
        c.number_in-4.ensures,
        (c.number_in-5.ensures, (c.number_in-6.ensures, (c.number_in-7.ensures, (c.number_in-8.ensures, (c.number_in-9.ensures, tt))))),
      ),
    ),
  ),
)
    c.new.result c.new.ensures.made c.new.ensures.first
