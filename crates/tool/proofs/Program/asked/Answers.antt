use Rattle.std.proofs.Common.{◌≡◌, true, refl, arith}
use Rattle.std.proofs.lemmas.Grind.{common_steps}
use Rattle.std.specs.Option.{is_some}
use Rattle.tool.specs.Asked.{has_second}
use Rattle.tool.specs.Asked as asked
use Rattle.tool.proofs.CommandLine.{next, no_more, first_word, second_word, extra_word}
use Rattle.tool.proofs.Program.asked.Goals.{in-End, in-Text-2+in-None, in-Plain, in-Plain-2, then-is_none-2+else-has_second, else-is_none-2}
use Rattle.tool.proofs.Program.asked.Goals as goal

pub returns-in-Help : goal.returns-in-Help
returns-in-Help c =
    record {
      asks =
          c.loop-word.invariant _
          (next _ _ _ _ c.loop-word-test.true c.word-item.is c.as_str-word.ensures.value
          (asked.help c.in-Help.ensures));
    }

pub returns-in-Version : goal.returns-in-Version
returns-in-Version c =
    record {
      asks =
          c.loop-word.invariant _
          (next _ _ _ _ c.loop-word-test.true c.word-item.is c.as_str-word.ensures.value
          (asked.version c.in-Version.ensures));
    }

pub returns-in-Text : goal.returns-in-Text
returns-in-Text c =
    record {
      asks =
          c.loop-word.invariant _
          (next _ _ _ _ c.loop-word-test.true c.word-item.is c.as_str-word.ensures.value
          (rw c.if-text.true (asked.twice _ c.in-Text.ensures refl)));
    }

pub returns-in-Some : goal.returns-in-Some
returns-in-Some c =
    record {
      asks =
          c.loop-word.invariant _
          (next _ _ _ _ c.loop-word-test.true c.word-item.is c.as_str-word.ensures.value
          (rw (c.if-text.false, c.in-Some.is) (asked.late _ c.in-Text.ensures refl)));
    }

pub returns-in-Unknown : goal.returns-in-Unknown
returns-in-Unknown c =
    record {
      asks =
          c.loop-word.invariant _
          (next _ _ _ _ c.loop-word-test.true c.word-item.is c.as_str-word.ensures.value
          (asked.unknown _ c.in-Unknown.ensures refl));
    }

pub returns-in-Plain-3 : goal.returns-in-Plain-3
returns-in-Plain-3 c =
    let full : has_second c.args.self.takes ≡ true → is_some c.loop-word.second ≡ true =
    elim c.if-is_none-2.branch [
      | then-is_none-2+else-has_second w ↦ λ two. grind (arith, common_steps)
      | else-is_none-2 w ↦ λ two. grind (arith, common_steps)
    ]
    in
    record {
      asks =
          c.loop-word.invariant _
          (next _ _ _ _ c.loop-word-test.true c.word-item.is c.as_str-word.ensures.value
          (extra_word _ _ _ (grind (arith, common_steps)) full c.in-Plain.ensures));
    }

pub loop-word-preserved : goal.loop-word-preserved
loop-word-preserved c r h =
    c.loop-word.invariant r
    (next _ _ _ _ c.loop-word-test.true c.word-item.is c.as_str-word.ensures.value
    (elim c.match-sort_of.branch [
      | in-End w ↦ asked.ends w.in-End.ensures (rw (w.options-is, w.text-is, w.first-is, w.second-is) at h)
      | in-Text-2+in-None w ↦
          rw (w.if-text.false, w.in-None.is) (asked.text w.in-Text.ensures (rw (w.options-is, w.text-is, w.first-is, w.second-is, w.in-None.is) at h))
      | in-Plain w ↦
          first_word _ c.as_str-word.result (grind (arith, common_steps)) w.in-Plain.ensures
          (rw (w.options-is, w.text-is, w.first-is, w.second-is) at h)
      | in-Plain-2 w ↦
          second_word _ _ c.as_str-word.result (grind (arith, common_steps)) (grind (arith, common_steps)) (grind (arith, common_steps)) w.in-Plain.ensures
          (rw (w.options-is, w.text-is, w.first-is, w.second-is) at h)
    ]))

pub returns : goal.returns
returns c = record { asks = c.loop-word.invariant _ (no_more _ _ c.loop-word-test.false (asked.done _ refl refl refl)) }
