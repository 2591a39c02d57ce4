-- A line that is read, and a line feed, are what is written.
use Rattle.std.proofs.Common.{◌≡◌, ℕ, Bool, true, false, List, [], ◌∷◌, ◌++◌, refl, ap, ◌∙◌, append_assoc}
use Rattle.ob_base.specs.declared.params.Params.{Params}
use Rattle.ob_store.specs.declared.watch.Note.{Note}
use Rattle.ob_store.specs.declared.watch.Note.TheVariants as N
use Rattle.ob_store.specs.Lines.{line_of, open_line, start_line}
use Rattle.ob_audit.specs.Spelling.{numbers_text, note_text, open_text, LinesAreTheWriters}

start_text : (p : Params) → (80 ∷ 32 ∷ numbers_text p) ++ 10 ∷ [] ≡ start_line p
start_text p = simp append_assoc

open_text_line : (mirrored : Bool) → open_text mirrored ++ 10 ∷ [] ≡ open_line mirrored
open_text_line false = refl
open_text_line true = refl

note_line : (note : Note) → note_text note ++ 10 ∷ [] ≡ line_of note
note_line (N.Label x) = refl
note_line (N.Read c) = refl
note_line (N.Write c) = refl
note_line N.Sync = refl

pub are_the_writers : LinesAreTheWriters
are_the_writers = record {
  starts = λ p bytes is. ap (λ (b : List ℕ). b ++ 10 ∷ []) is ∙ start_text p;
  opens = λ mirrored bytes is. ap (λ (b : List ℕ). b ++ 10 ∷ []) is ∙ open_text_line mirrored;
  notes = λ note bytes is. ap (λ (b : List ℕ). b ++ 10 ∷ []) is ∙ note_line note;
}
