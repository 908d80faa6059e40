-- What a put, a delete and a get did in their session.
use Rattle.std.proofs.Common.{ℕ, List, subst}
use Rattle.std.specs.Prelude.{option_map}
use Rattle.dy_lines.specs.declared.outcomes.Word.TheVariants as word
use Rattle.dy_commands.specs.Seats.{seat_of}
use Rattle.dy_commands.specs.Texts.{IsPutJudged}
use Rattle.dy_commands.specs.Writes.{RunsJudged}
use Rattle.dy_commands.proofs.Seating.{number_of_homes}
use Rattle.dy_commands.proofs.running.run_command.Goals as goal

-- a put has the value that the script has
pub returns-in-Put-clause-done : goal.returns-in-Put-clause-done
returns-in-Put-clause-done g c =
    let write = c.in-Put.write in
    let given = c.read_put.result in
    let after = c.run_write.new in
    let Judged : List ℕ → Type 0 = λ v. IsPutJudged write.key.now
    (option_map (λ s. s.now) write.context) v given in
    let Runs : ℕ → Type 0 = λ w. RunsJudged g.row.J.Denot g.J.Naming.ring g.J.Naming.n
    (seat_of write.session after.runner.seats.numbers.items) w word.Put c.run_write.result
    after.runner.seats.refused c.args.lent.now.sessions.items after.lent.sessions.items given in
    rw c.in-Put.is (
      given,
      subst Judged c.as_slice.ensures.value (record {
        ok = c.read_put.ensures.ok;
        key_size = c.read_put.ensures.key_size;
        value_size = c.read_put.ensures.value_size;
        only = c.read_put.ensures.only;
      }),
      record {
        opens = record {
          opened = c.run_write.ensures.opened;
          is_open = c.run_write.ensures.is_open;
          together = c.run_write.ensures.together;
        };
        told = subst Runs (number_of_homes c.args.w write.w _ c.unwrap_or.ensures)
            c.run_write.ensures.told;
      },
    )

pub returns-in-Delete-clause-done : goal.returns-in-Delete-clause-done
returns-in-Delete-clause-done g c =
    let write = c.in-Delete.write in
    let given = c.read_delete.result in
    let after = c.run_write-in-Delete.new in
    let Runs : ℕ → Type 0 = λ w. RunsJudged g.row.J.Denot g.J.Naming.ring g.J.Naming.n
    (seat_of write.session after.runner.seats.numbers.items) w word.Delete c.run_write-in-Delete.result
    after.runner.seats.refused c.args.lent.now.sessions.items after.lent.sessions.items given in
    rw c.in-Delete.is (
      given,
      record {
        ok = c.read_delete.ensures.ok;
        key_size = c.read_delete.ensures.key_size;
        only = c.read_delete.ensures.only;
      },
      record {
        opens = record {
          opened = c.run_write-in-Delete.ensures.opened;
          is_open = c.run_write-in-Delete.ensures.is_open;
          together = c.run_write-in-Delete.ensures.together;
        };
        told = subst Runs (number_of_homes c.args.w write.w _ c.unwrap_or-in-Delete.ensures)
            c.run_write-in-Delete.ensures.told;
      },
    )

-- a get reads the key that the script has
pub returns-in-Get-clause-done : goal.returns-in-Get-clause-done
returns-in-Get-clause-done g c =
    let told = c.run_get.ensures.told in
    rw c.in-Get.is (record {
      opens = record {
        opened = c.run_get.ensures.opened;
        is_open = c.run_get.ensures.is_open;
        together = c.run_get.ensures.together;
      };
      judged = told.0;
      judged_is = told.1;
      told = told.2;
    })
