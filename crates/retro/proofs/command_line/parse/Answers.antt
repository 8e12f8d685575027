use Rattle.std.proofs.Common.{◌∙◌, inl, inr, map, string_bytes}
use Rattle.std.proofs.lemmas.List.Folds.{list_all-map}
use Rattle.retro.specs.Words.{is_plain}
use Rattle.retro.proofs.Taken.{reads, refuses_bad}
use Rattle.retro.proofs.command_line.parse.Goals as goal

pub returns-in-Ok-try_get_matches_from : goal.returns-in-Ok-try_get_matches_from
returns-in-Ok-try_get_matches_from c =
    reads (map (λ w. string_bytes w) c.args.words.now) (list_all-map is_plain (λ w. string_bytes w) c.args.words.now ∙ c.requires) _ c.in-Ok.ensures _
    c.in-Ok-try_get_matches_from.ensures.kinds (λ s. (c.in-Ok-try_get_matches_from.ensures.matches s).1)

pub returns-in-Err : goal.returns-in-Err
returns-in-Err c = elim c.mistake_of.ensures [
  | inl memory ↦ inl memory.1
  | inr other ↦ inr (
    other.1,
    refuses_bad (map (λ w. string_bytes w) c.args.words.now) (list_all-map is_plain (λ w. string_bytes w) c.args.words.now ∙ c.requires)
        _ c.in-Ok.ensures _ c.in-Err.ensures.kinds other.0,
  )
]
