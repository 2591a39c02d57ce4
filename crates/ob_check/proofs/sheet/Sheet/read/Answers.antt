use Rattle.std.proofs.Common.{◌≡◌, ◌<◌, ◌+◌, ◌%◌, ◌/◌, ◌^◌, ◌∙◌, sym, subst, length, List, ℕ}
use Rattle.ob_check.proofs.sheet.Sheet.read.Goals as goal

pub read_sealed-requires-clause-some : goal.read_sealed-requires-clause-some
read_sealed-requires-clause-some g c = subst (λ (xs : List ℕ). 0 < length xs) (sym (c.as_mut_slice.ensures.value ∙ c.self.view_is)) c.requires.some

pub read_sealed-requires-clause-whole : goal.read_sealed-requires-clause-whole
read_sealed-requires-clause-whole g c = subst (λ (xs : List ℕ). length xs % 96 ≡ 0) (sym (c.as_mut_slice.ensures.value ∙ c.self.view_is)) c.requires.whole

pub read_sealed-requires-clause-fits : goal.read_sealed-requires-clause-fits
read_sealed-requires-clause-fits g c = subst (λ (xs : List ℕ). c.args.base + length xs / 96 < 2 ^ 64) (sym (c.as_mut_slice.ensures.value ∙ c.self.view_is)) c.requires.fits

pub returns-clause-serves : goal.returns-clause-serves
returns-clause-serves g c = c.read_sealed.ensures.serves

pub returns-clause-keeps : goal.returns-clause-keeps
returns-clause-keeps g c = c.read_sealed.ensures.keeps

pub returns-clause-passes : goal.returns-clause-passes
returns-clause-passes g c = c.read_sealed.ensures.passes
