use Rattle.std.proofs.Common.{rules, ◌≡◌, Some, [], false, true, if◌then◌else◌, sym, ap}
use Rattle.console.specs.Console.{ConsoleState, is_input}
use Rattle.console.proofs.Snapshots.{file_refused, input_refused, spent_refused}
use Rattle.console.proofs.streams.StreamsConsole.read_snapshot.Goals as goal

pub returns-clause-refused : goal.returns-clause-refused
returns-clause-refused g c =
    let name = c.args.name.now in
    let is : is_input name ≡ true = search rules in
    let left = g.I.Source.left c.args.self.now.input.now in
    let old : ConsoleState = record {
      left = if c.args.self.now.is_spent then Some [] else left;
      files = g.N.Named.files c.args.self.now.files.now;
      sites = g.N.Named.sites c.args.self.now.files.now;
      printed = g.O.Drain.taken c.args.self.now.output.now;
      input_failed = g.I.Source.failed c.args.self.now.input.now;
      files_failed = g.N.Named.failed c.args.self.now.files.now;
      output_failed = g.O.Drain.failed c.args.self.now.output.now;
      ends = (c.args.self.now.input.ghost_name, c.args.self.now.output.ghost_name, c.args.self.now.files.ghost_name);
    } in
    let known : left ≡ old.left = sym (ap (λ t. if t then Some [] else left) c.if-self.false) in
    input_refused c.args.name old (g.I.Source.failed c.gather_onto.new.source) is c.gather_onto.result left known
    c.gather_onto.ensures.err c.gather_onto.ensures.counted

pub returns-then-self-clause-refused : goal.returns-then-self-clause-refused
returns-then-self-clause-refused g c =
    let name = c.args.name.now in
    let is : is_input name ≡ true = search rules in
    let left = g.I.Source.left c.args.self.now.input.now in
    let old : ConsoleState = record {
      left = if c.args.self.now.is_spent then Some [] else left;
      files = g.N.Named.files c.args.self.now.files.now;
      sites = g.N.Named.sites c.args.self.now.files.now;
      printed = g.O.Drain.taken c.args.self.now.output.now;
      input_failed = g.I.Source.failed c.args.self.now.input.now;
      files_failed = g.N.Named.failed c.args.self.now.files.now;
      output_failed = g.O.Drain.failed c.args.self.now.output.now;
      ends = (c.args.self.now.input.ghost_name, c.args.self.now.output.ghost_name, c.args.self.now.files.ghost_name);
    } in
    let none : Some [] ≡ old.left = sym (ap (λ t. if t then Some [] else left) c.if-self.true) in
    spent_refused c.args.name old is none

pub returns-then-not-is_input-clause-refused : goal.returns-then-not-is_input-clause-refused
returns-then-not-is_input-clause-refused g c =
    let is : is_input c.args.name.now ≡ false = search rules in
    let left = g.I.Source.left c.args.self.now.input.now in
    let old : ConsoleState = record {
      left = if c.args.self.now.is_spent then Some [] else left;
      files = g.N.Named.files c.args.self.now.files.now;
      sites = g.N.Named.sites c.args.self.now.files.now;
      printed = g.O.Drain.taken c.args.self.now.output.now;
      input_failed = g.I.Source.failed c.args.self.now.input.now;
      files_failed = g.N.Named.failed c.args.self.now.files.now;
      output_failed = g.O.Drain.failed c.args.self.now.output.now;
      ends = (c.args.self.now.input.ghost_name, c.args.self.now.output.ghost_name, c.args.self.now.files.ghost_name);
    } in
    file_refused c.args.name old (g.N.Named.files c.read_snapshot.new.self) (g.N.Named.sites c.read_snapshot.new.self)
    (g.N.Named.failed c.read_snapshot.new.self) is c.read_snapshot.ensures.kept c.read_snapshot.ensures.sites
    c.read_snapshot.result c.read_snapshot.ensures.err c.read_snapshot.ensures.counted
