-- A get that gathered enough ends as it is finished, with what it gathered.
use Rattle.std.proofs.Common.{◌≡◌, ◌∙◌, List, ℕ, length, arith, ap, refl, inl, inr}
use Rattle.dy_core.specs.Logs.{Answer as SeenParts}
use Rattle.dy_shares.specs.Shares.{since_of}
use Rattle.dy_quorum.specs.Gatherings.{first_answers}
use Rattle.dy_core.specs.declared.answers.AnswerRead.{AnswerRead}
use Rattle.dy_coord.proofs.Getting.{are_used, gathered, got, lacking, no_answers}
use Rattle.dy_coord.proofs.gets.get.Goals as goal

pub returns-else-not-is_ready-clause-ok : goal.returns-else-not-is_ready-clause-ok
returns-else-not-is_ready-clause-ok g c =
    let told = g.T.Transport.told c.gather.new.transport in
    let list = c.args.list.now in
    let key = c.args.key.now in
    let since : ℕ = since_of c.args.session.now in
    let seens : List SeenParts = c.gather.new.gathering.seens in
    let answers : List AnswerRead = c.gather.new.answers.items in
    let r = ap (λ t. t.r) c.in-Ok.ensures.empty ∙ c.requires.r in
    let x = rw (r, c.since-since.ensures) at c.gather.ensures.collects in
    let most = x.most in
    let ready = rw (c.if-not-is_ready.false, c.gather.ensures.r, r) at c.is_ready.ensures in
    let count : length (first_answers seens) ≡ g.J.Naming.r = omega arith in
    got list key g.J.Naming.r since c.in-At.c c.in-At.own told seens answers c.finish.result
    (gathered list key g.J.Naming.r since c.in-At.c c.in-At.own told seens answers
    (rw (c.gather.ensures.tries, ← c.since-since.ensures) c.in-At.ensures.tries)
    (rw (← c.since-since.ensures) c.in-At.ensures.seen) x)
    (are_used key g.J.Naming.r since seens count x.of_key x.later)
    c.finish.ensures.ok (c.finish.ensures.key key x.of_key)

pub returns-else-not-is_ready-clause-refused : goal.returns-else-not-is_ready-clause-refused
returns-else-not-is_ready-clause-refused g c =
    let told = g.T.Transport.told c.gather.new.transport in
    let list = c.args.list.now in
    let key = c.args.key.now in
    let since : ℕ = since_of c.args.session.now in
    let seens : List SeenParts = c.gather.new.gathering.seens in
    let answers : List AnswerRead = c.gather.new.answers.items in
    let r = ap (λ t. t.r) c.in-Ok.ensures.empty ∙ c.requires.r in
    let x = rw (r, c.since-since.ensures) at c.gather.ensures.collects in
    let most = x.most in
    let ready = rw (c.if-not-is_ready.false, c.gather.ensures.r, r) at c.is_ready.ensures in
    let count : length (first_answers seens) ≡ g.J.Naming.r = omega arith in
    lacking list key g.J.Naming.r since c.in-At.c c.in-At.own told seens answers c.finish.result
    (gathered list key g.J.Naming.r since c.in-At.c c.in-At.own told seens answers
    (rw (c.gather.ensures.tries, ← c.since-since.ensures) c.in-At.ensures.tries)
    (rw (← c.since-since.ensures) c.in-At.ensures.seen) x)
    count c.finish.ensures.memory c.finish.ensures.no_answers

pub finish-requires-clause-count : goal.finish-requires-clause-count
finish-requires-clause-count g c =
    let seens : List SeenParts = c.gather.new.gathering.seens in
    let r = ap (λ t. t.r) c.in-Ok.ensures.empty ∙ c.requires.r in
    let x = rw (r, c.since-since.ensures) at c.gather.ensures.collects in
    let most = x.most in
    let ready = rw (c.if-not-is_ready.false, c.gather.ensures.r, r) at c.is_ready.ensures in
    omega arith

-- what was seen is of the key
pub finish-requires-clause-one_key : goal.finish-requires-clause-one_key
finish-requires-clause-one_key g c = (c.args.key.now, c.gather.ensures.collects.of_key)

-- too few homes answered
pub returns-then-not-is_ready-clause-refused : goal.returns-then-not-is_ready-clause-refused
returns-then-not-is_ready-clause-refused g c =
    let told = g.T.Transport.told c.gather.new.transport in
    let list = c.args.list.now in
    let key = c.args.key.now in
    let since : ℕ = since_of c.args.session.now in
    let seens : List SeenParts = c.gather.new.gathering.seens in
    let answers : List AnswerRead = c.gather.new.answers.items in
    let r = ap (λ t. t.r) c.in-Ok.ensures.empty ∙ c.requires.r in
    let x = rw (r, c.since-since.ensures) at c.gather.ensures.collects in
    let few = rw (c.if-not-is_ready.true, c.gather.ensures.r, r) at c.is_ready.ensures in
    inl (record {
      coordinator = c.in-At.c;
      own = c.in-At.own;
      seens = seens;
      fault = refl;
      gathers = gathered list key g.J.Naming.r since c.in-At.c c.in-At.own told seens answers
          (rw (c.gather.ensures.tries, ← c.since-since.ensures) c.in-At.ensures.tries)
          (rw (← c.since-since.ensures) c.in-At.ensures.seen) x;
      few = few;
      out = (x.out few).0;
      used = (x.out few).1;
    })

-- each node was down
pub returns-in-NoNode-clause-refused : goal.returns-in-NoNode-clause-refused
returns-in-NoNode-clause-refused g c =
    let l = c.in-NoNode.ensures in
    inr (inr (record {
      asks = l.asks ∙ c.requires.fresh.asks;
      replies = l.replies ∙ c.requires.fresh.replies;
      answers = c.without_answers-in-NoNode.ensures.answers;
      cause = inr (inl (c.without_answers-in-NoNode.ensures.fault, rw (← c.since-since.ensures) l.tries));
    }))

-- a node refused
pub returns-in-Refused-clause-refused : goal.returns-in-Refused-clause-refused
returns-in-Refused-clause-refused g c =
    let l = c.in-Refused.ensures in
    inr (inr (record {
      asks = l.asks ∙ c.requires.fresh.asks;
      replies = l.replies ∙ c.requires.fresh.replies;
      answers = c.without_answers-in-Refused.ensures.answers;
      cause = inr (inr (rw (c.without_answers-in-Refused.ensures.fault, ← c.since-since.ensures) l.tries));
    }))

-- r homes answered, and nothing is listed
pub returns-else-not-is_ready-clause-no_answers : goal.returns-else-not-is_ready-clause-no_answers
returns-else-not-is_ready-clause-no_answers g c = no_answers c.finish.result c.finish.ensures.no_answers

pub returns-then-not-is_ready-clause-no_answers : goal.returns-then-not-is_ready-clause-no_answers
returns-then-not-is_ready-clause-no_answers g c = λ other. absurd (other refl)
