use Rattle.std.proofs.Common.{◌≡◌, ℕ, List, ◌<◌, ◌≤◌, ◌+◌, ◌++◌, All, length, take, drop, map, sym, ap, subst, ◌∙◌, length-append, arith, rules}
use Rattle.std.proofs.lemmas.List.{length-map}
use Rattle.std.specs.Prelude.{IfOk, slice_index_or, vec_capacity}
use Rattle.std.specs.List.{flat_map, AllByRecursion}
use Rattle.cqe_base.specs.Schema.{DatabaseSchema, has_duplicate}
use Rattle.cqe_base.specs.Facts.{FactSet}
use Rattle.cqe_base.specs.History.{profile_of}
use Rattle.desk_crew.specs.Crew.{seat_kept, seat_user, seat_name, IsSeatServed}
use Rattle.list_sums.proofs.Lent.{lent_whole}
use Rattle.batch_engine.specs.Answers.{strangers_from}
use Rattle.batch_engine.specs.Batches.{ask_in, asks_in}
use Rattle.batch_engine.specs.Posts.{HasRoom, HasRooms, RunsOwn, AreAnswered, seat_of, answers_at, names_of}
use Rattle.batch_engine.proofs.Merging.{kept_names}
use Rattle.batch_engine.proofs.Posts.{own_runs, served_posts, posts_of, all_are, same_names, are_answered, answers_in_all}
use Rattle.batch_engine.proofs.post.answer_stretch.Given.{Over}
use Rattle.batch_engine.proofs.post.answer_stretch.Goals as goal
use Rattle.batch_engine.proofs.post.answer_stretch.Goals.{After-strangers-answers}

pub post_all-posts-requires-clause-rooms : goal.post_all-posts-requires-clause-rooms
post_all-posts-requires-clause-rooms g c =
    subst (λ l. HasRooms (asks_in c.args.asks.now) l c.in-Ok-Ok-Ok-Ok.rooms.items) c.as_slice.ensures.value
    (subst (λ r. IfOk r (λ v. HasRooms (asks_in c.args.asks.now) c.as_slice.result.now v.items)) c.in-Ok-Ok-Ok-Ok.is-3 c.rooms_for.ensures.rooms)

pub answer_each-requires-clause-users : goal.answer_each-requires-clause-users
answer_each-requires-clause-users g c κs within =
    let lent : c.deref_mut.result.now ≡ c.post_all-posts.result.items = search rules in
    let served = c.requires.served in
    subst (All (λ p. (seat_kept p.seat).user ≡ profile_of (seat_user p.seat))) (sym lent)
    (posts_of served.0 served.1 served.2 c.post_all-posts.result.items
    (served_posts served.0 served.1 served.2 c.post_all-posts.result.items c.args.seats.items c.post_all-posts.ensures.seats served.3))

pub answer_each-requires-clause-rooms : goal.answer_each-requires-clause-rooms
answer_each-requires-clause-rooms g c κs within =
    let lent : c.deref_mut.result.now ≡ c.post_all-posts.result.items = search rules in
    subst (All (HasRoom (asks_in c.args.asks.now))) (sym lent) c.post_all-posts.ensures.rooms

-- the posts as they are lent to the threads
lent : (g : Over) (c : After-strangers-answers g) → c.deref_mut.result.now ≡ c.post_all-posts.result.items
lent g c = search rules

-- and as they come back
whole : (g : Over) (c : After-strangers-answers g)
    → take c.post_all-posts.result.len
    (c.answer_each.new.posts ++ drop (length c.answer_each.new.posts) c.post_all-posts.result.items) ≡ c.answer_each.new.posts
whole g c = lent_whole c.post_all-posts.result.len c.answer_each.new.posts c.post_all-posts.result.items (search rules) (search rules)

-- what the users were told, and what the strangers were
told : (g : Over) (c : After-strangers-answers g) (schema : DatabaseSchema) (world : FactSet) (header : List ℕ)
    → AllByRecursion (IsSeatServed schema world header) c.args.seats.items
    → AreAnswered schema world (asks_in c.args.asks.now) c.args.seats.items (map seat_of c.answer_each.new.posts)
    (c.strangers-answers.result.items ++ flat_map answers_at c.answer_each.new.posts)
told g c schema world header served =
    let asks = asks_in c.args.asks.now in
    let olds = c.post_all-posts.result.items in
    let news = c.answer_each.new.posts in
    let seats = c.post_all-posts.ensures.seats in
    let posted = served_posts schema world header olds c.args.seats.items seats served in
    let own = subst (λ l. (k : ℕ) (d : _) → k < length l → RunsOwn asks (slice_index_or l k d) (slice_index_or news k d)) (lent g c)
    c.answer_each.ensures.own in
    let many = c.answer_each.ensures.count ∙ ap length (lent g c) in
    let runs = own_runs schema world header asks olds news many posted own in
    let owns = map answers_at news in
    let names = same_names news ∙ kept_names schema world 0 asks (map seat_of olds) (map seat_of news) owns runs in
    subst (λ l. AreAnswered schema world asks l (map seat_of news) (c.strangers-answers.result.items ++ flat_map answers_at news)) seats
    (are_answered schema world asks (map seat_of olds) (map seat_of news) owns (names_of news) _
    (ap (λ l. has_duplicate (map seat_name l)) seats ∙ c.requires.distinct) names runs
    (ap (λ l. l ++ flat_map answers_at news) c.strangers-answers.ensures.answers
    ∙ ap (λ l. strangers_from 0 asks (names_of l) ++ flat_map answers_at news) (c.as_slice-2.ensures.value ∙ whole g c)
    ∙ ap (λ l. strangers_from 0 asks (names_of news) ++ l) (all_are news)))

-- all answers are as many as the asks: a list with room for one more than the asks has room for them, and for one more
fits : (g : Over) (c : After-strangers-answers g)
    → length c.strangers-answers.result.items + length (flat_map answers_at c.answer_each.new.posts) ≡ length c.args.asks.now
fits g c =
    let served = c.requires.served in
    let others = flat_map answers_at c.answer_each.new.posts in
    sym (length-append c.strangers-answers.result.items others)
    ∙ answers_in_all served.0 served.1 (asks_in c.args.asks.now) c.args.seats.items (map seat_of c.answer_each.new.posts)
    (c.strangers-answers.result.items ++ others) (told g c served.0 served.1 served.2 served.3)
    ∙ length-map c.args.asks.now ask_in

pub dismiss-requires-clause-room : goal.dismiss-requires-clause-room
dismiss-requires-clause-room g c =
    let room = subst (λ r. IfOk r (λ v. c.len-count.result ≤ vec_capacity v)) c.in-Ok-Ok-Ok-Ok.is-1 c.room_for-2.ensures.room in
    let count = c.len-count.ensures in
    let back = ap length (whole g (goal.at.dismiss-requires-clause-room g c).After-strangers-answers) in
    let many = c.answer_each.ensures.count ∙ ap length (lent g (goal.at.dismiss-requires-clause-room g c).After-strangers-answers) in
    let posted = sym (length-map c.post_all-posts.result.items seat_of) ∙ ap length c.post_all-posts.ensures.seats in
    omega (arith, room, count, back, many, posted, c.args.seats.ok.0)

pub dismiss-requires-clause-all : goal.dismiss-requires-clause-all
dismiss-requires-clause-all g c =
    let all = fits g (goal.at.dismiss-requires-clause-all g c).After-strangers-answers in
    let back = ap (λ l. length (flat_map answers_at l)) (whole g (goal.at.dismiss-requires-clause-all g c).After-strangers-answers) in
    let room = subst (λ r. IfOk r (λ v. c.in-Some.all ≤ vec_capacity v)) c.in-Ok-Ok-Ok-Ok.is-2 c.room_for-3.ensures.room in
    let same = c.strangers-answers.ensures.capacity in
    let more = c.in-Some.ensures.1 in
    omega (arith, all, back, room, same, more)

pub returns-clause-answered : goal.returns-clause-answered
returns-clause-answered g c = λ schema world header served.
    let back = whole g (goal.at.returns-clause-answered g c).After-strangers-answers in
    let parts = c.dismiss.ensures.answers ∙ ap (λ l. c.strangers-answers.result.items ++ flat_map answers_at l) back in
    subst (λ l. AreAnswered schema world (asks_in c.args.asks.now) c.args.seats.items l c.dismiss.result.1.items)
    (sym (c.dismiss.ensures.seats ∙ ap (map seat_of) back))
    (subst (AreAnswered schema world (asks_in c.args.asks.now) c.args.seats.items (map seat_of c.answer_each.new.posts)) (sym parts)
    (told g (goal.at.returns-clause-answered g c).After-strangers-answers schema world header served))

pub returns-clause-spare : goal.returns-clause-spare
returns-clause-spare g c =
    let all = fits g (goal.at.returns-clause-spare g c).After-strangers-answers in
    let back = ap (λ l. length (flat_map answers_at l)) (whole g (goal.at.returns-clause-spare g c).After-strangers-answers) in
    let gathered = ap length c.dismiss.ensures.answers ∙ length-append c.strangers-answers.result.items _ in
    let room = subst (λ r. IfOk r (λ v. c.in-Some.all ≤ vec_capacity v)) c.in-Ok-Ok-Ok-Ok.is-2 c.room_for-3.ensures.room in
    let same = c.dismiss.ensures.capacity ∙ c.strangers-answers.ensures.capacity in
    let more = c.in-Some.ensures.1 in
    omega (arith, all, back, gathered, room, same, more, c.dismiss.result.1.ok.0)
