-- The life of a ring store, as words of its kind of store.
use Rattle.ob_vault.specs.KindLives.{LifeWords}
use Rattle.ob_vault.specs.Lives.{RingBegins, RingFormatted, RingGoesOn, RingStops}
use Rattle.ob_vault.specs.RingKind.{ring_kind}
use Rattle.ob_vault.specs.Staged.{RingCallStaged, RingOpensStaged}

abbrev pub ring_lives : LifeWords ring_kind
ring_lives = record {
  formatted = RingFormatted;
  begins = RingBegins;
  stops = RingStops;
  goes_on = RingGoesOn;
  opens_staged = RingOpensStaged;
  call_staged = RingCallStaged;
}
