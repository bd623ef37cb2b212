use Rattle.std.proofs.Common.{◌≡◌, ◌∙◌, ℕ, List, Option, rules, refl, ap}
use Rattle.commands.specs.Running.{counts}
use Rattle.commands.proofs.SameEnds.{ends-kept}
use Rattle.commands.proofs.run.run_over.Goals as goal

same_counts : (printed printed' : Option (List ℕ)) (input input' files files' output output' : ℕ) → printed ≡ printed'
    → input ≡ input' → files ≡ files' → output ≡ output'
    → counts printed input files output ≡ counts printed' input' files' output'
same_counts printed printed' input input' files files' output output' p i f o =
    ap (λ x. counts x input files output) p ∙ ap (λ x. counts printed' x files output) i
    ∙ ap (λ x. counts printed' input' x output) f ∙ ap (λ x. counts printed' input' files' x) o

-- the references that the console holds are those that it was made of
pub returns : goal.returns
returns g c =
    let same = ends-kept c.args.command.now _ _ c.do_command.result c.do_command.ensures in
    let of_input : c.do_command.new.console.input.ghost_name ≡ c.console-1.given = ap (λ (n : ℕ × ℕ × ℕ). n.0) same in
    let of_output : c.do_command.new.console.output.ghost_name ≡ c.console-2-1.given = ap (λ (n : ℕ × ℕ × ℕ). n.1) same in
    let of_files : c.do_command.new.console.files.ghost_name ≡ c.console-3-1.given = ap (λ (n : ℕ × ℕ × ℕ). n.2) same in
    record {
      before = _;
      after = _;
      input = refl;
      named = refl;
      running = refl;
      begins = refl;
      ends = c.do_command.ensures;
      leaves = same_counts _ _ _ _ _ _ _ _ (search (rules, of_output)) (search (rules, of_input))
          (search (rules, of_files)) (search (rules, of_output));
    }
