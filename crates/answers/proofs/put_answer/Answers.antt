-- Each command: there is room for its answer, and it is what the line asks for. Assumes nothing.
use Rattle.std.proofs.Common.{◌≡◌, refl, sym, ap, ◌∙◌, List, ℕ, ◌≤◌, arith, length, take, length-take, Option, Some}
use Rattle.rules.specs.Layout.{state_size}
use Rattle.text.specs.declared.printing.Page.{Page}
use Rattle.text.specs.Page.{Room, Puts}
use Rattle.text.proofs.Texts.{written_as, room_as}
use Rattle.commands.specs.Asked.{asked}
use Rattle.commands.specs.Meaning.{meaning, byte_count}
use Rattle.commands.specs.declared.Command.{Command}
use Rattle.answers.specs.Sizes.{byte_size}
use Rattle.answers.specs.Answers.{answer_text, state_after}
use Rattle.answers.proofs.put_answer.Goals as goal
use Rattle.answers.proofs.put_answer.Goals.{After-parse}

-- the line, the state memory and the page at the start, and the bytes that the line says
abbrev line : After-parse → List ℕ
line c = c.args.line.now

abbrev state : After-parse → List ℕ
state c = c.args.state.now

abbrev page : After-parse → Page
page c = c.args.page.now

abbrev bytes : After-parse → List ℕ
bytes c = c.parse.new.bytes

size : (c : After-parse) → length (state c) ≡ state_size
size c = c.requires.sized.0

-- the bytes that a command speaks of are there
within : (c : After-parse) {x : Option Command} → c.parse.result ≡ x → byte_count x ≤ length (bytes c)
within c is = omega (arith, ap byte_count is, c.parse.ensures.within)

small : (c : After-parse) {x : Option Command} → c.parse.result ≡ x → length (take (byte_count x) (bytes c)) ≤ byte_size
small c {x} is = omega (arith, length-take (byte_count x) (bytes c))

-- what the line asks for
asks : (c : After-parse) {x : Option Command} → c.parse.result ≡ x → meaning (bytes c) x ≡ asked (line c)
asks c is = ap (meaning (bytes c)) (sym is) ∙ c.parse.ensures.is

-- there is room for its answer
room : (c : After-parse) {x : Option Command} → c.parse.result ≡ x → Room (page c) (answer_text (line c) (state c) (meaning (bytes c) x))
room c {x} is = room_as (page c) (ap (answer_text (line c) (state c)) (asks c is)) c.requires.room

-- and it is what the line asks for
given : (c : After-parse) {x : Option Command} → c.parse.result ≡ x → {after : Page} {left : List ℕ}
    → Puts (page c) (answer_text (line c) (state c) (meaning (bytes c) x)) after
    → left ≡ state_after (state c) (meaning (bytes c) x)
    → record {
      says : Puts (page c) (answer_text (line c) (state c) (asked (line c))) after;
      leaves : left ≡ state_after (state c) (asked (line c));
    }
given c is says leaves = record {
  says = written_as (ap (answer_text (line c) (state c)) (asks c is)) says;
  leaves = leaves ∙ ap (state_after (state c)) (asks c is);
}

pub unknown-requires : goal.unknown-requires
unknown-requires c = room (goal.at.unknown-requires c).After-parse c.in_default.is

pub remark-requires : goal.remark-requires
remark-requires c = room (goal.at.remark-requires c).After-parse (c.in-Some.is ∙ ap Some c.in-Remark.is)

pub load-requires : goal.load-requires
load-requires c = room (goal.at.load-requires c).After-parse (c.in-Some.is ∙ ap Some c.in-Load.is)

pub write-requires : goal.write-requires
write-requires c = room (goal.at.write-requires c).After-parse (c.in-Some.is ∙ ap Some c.in-Write.is)

pub step_record-requires : goal.step_record-requires
step_record-requires c = room (goal.at.step_record-requires c).After-parse (c.in-Some.is ∙ ap Some c.in-Record.is)

pub step_end-requires : goal.step_end-requires
step_end-requires c = room (goal.at.step_end-requires c).After-parse (c.in-Some.is ∙ ap Some c.in-End.is)

pub run-requires : goal.run-requires
run-requires c = room (goal.at.run-requires c).After-parse (c.in-Some.is ∙ ap Some c.in-Run.is)

pub free-requires : goal.free-requires
free-requires c = room (goal.at.free-requires c).After-parse (c.in-Some.is ∙ ap Some c.in-Free.is)

pub dump-requires : goal.dump-requires
dump-requires c =
    record {
      state_len = size (goal.at.dump-requires c).After-parse;
      room = room (goal.at.dump-requires c).After-parse (c.in-Some.is ∙ ap Some c.in-Dump.is);
    }

pub peek-requires : goal.peek-requires
peek-requires c =
    record {
      state_len = size (goal.at.peek-requires c).After-parse;
      room = room (goal.at.peek-requires c).After-parse (c.in-Some.is ∙ ap Some c.in-Peek.is);
    }

pub poke-requires : goal.poke-requires
poke-requires c =
    record {
      state_len = (
        size (goal.at.poke-requires c).After-parse,
        small (goal.at.poke-requires c).After-parse (c.in-Some.is ∙ ap Some c.in-Poke.is),
      );
      room = room (goal.at.poke-requires c).After-parse (c.in-Some.is ∙ ap Some c.in-Poke.is);
    }

pub returns-in_default : goal.returns-in_default
returns-in_default c = given (goal.at.returns-in_default c).After-parse c.in_default.is c.unknown.ensures refl

pub returns-in-Remark : goal.returns-in-Remark
returns-in-Remark c = given (goal.at.returns-in-Remark c).After-parse (c.in-Some.is ∙ ap Some c.in-Remark.is) c.remark.ensures refl

pub returns-in-Load : goal.returns-in-Load
returns-in-Load c =
    given (goal.at.returns-in-Load c).After-parse (c.in-Some.is ∙ ap Some c.in-Load.is) c.load.ensures.says c.load.ensures.leaves

pub returns-in-Write : goal.returns-in-Write
returns-in-Write c = given (goal.at.returns-in-Write c).After-parse (c.in-Some.is ∙ ap Some c.in-Write.is) c.write.ensures refl

pub returns-in-Record : goal.returns-in-Record
returns-in-Record c =
    given (goal.at.returns-in-Record c).After-parse
    (c.in-Some.is ∙ ap Some c.in-Record.is) c.step_record.ensures.says c.step_record.ensures.leaves

pub returns-in-End : goal.returns-in-End
returns-in-End c =
    given (goal.at.returns-in-End c).After-parse (c.in-Some.is ∙ ap Some c.in-End.is) c.step_end.ensures.says c.step_end.ensures.leaves

pub returns-in-Run : goal.returns-in-Run
returns-in-Run c = given (goal.at.returns-in-Run c).After-parse (c.in-Some.is ∙ ap Some c.in-Run.is) c.run.ensures.says c.run.ensures.leaves

pub returns-in-Free : goal.returns-in-Free
returns-in-Free c = given (goal.at.returns-in-Free c).After-parse (c.in-Some.is ∙ ap Some c.in-Free.is) c.free.ensures refl

pub returns-in-Dump : goal.returns-in-Dump
returns-in-Dump c = given (goal.at.returns-in-Dump c).After-parse (c.in-Some.is ∙ ap Some c.in-Dump.is) c.dump.ensures refl

pub returns-in-Peek : goal.returns-in-Peek
returns-in-Peek c = given (goal.at.returns-in-Peek c).After-parse (c.in-Some.is ∙ ap Some c.in-Peek.is) c.peek.ensures refl

pub returns-in-Poke : goal.returns-in-Poke
returns-in-Poke c =
    given (goal.at.returns-in-Poke c).After-parse (c.in-Some.is ∙ ap Some c.in-Poke.is) c.poke.ensures.says c.poke.ensures.leaves
