use Rattle.std.proofs.Common.{◌<◌, ◌^◌, ◌∙◌, List, ℕ, ap, arith, length}
use Rattle.rand_core.specs.Steps.{fill_via_u32}
use Rattle.rand_chacha.specs.ChaCha.{ChaCha, next_word}
use Rattle.sealed_line.proofs.Stream.{filled}
use Rattle.sealed_line.proofs.cross.write_keystream.Goals as goal

pub returns : goal.returns
returns c =
    let count = c.args.count in
    let long : length c.args.into.now < 2 ^ 64 = omega arith in
    let start = c.set_stream.ensures
    ∙ ap (λ (g : ChaCha). record { key = g.key; stream = count; word_pos = g.word_pos }) c.from_seed-stream.ensures in
    ap (λ (given : List ℕ × ChaCha). given.0) c.fill_bytes_via_u32.ensures
    ∙ ap (λ (g : ChaCha). (fill_via_u32 (next_word 10) (length c.args.into.now) g).0) start
    ∙ filled c.args.key.now count (length c.args.into.now) long
