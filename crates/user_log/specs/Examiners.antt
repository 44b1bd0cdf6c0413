-- What an examiner is to its callers.
use Rattle.cqe_base.specs.Schema.{DatabaseSchema}
use Rattle.cqe_base.specs.History.{UserProfile, profile_of}
use Rattle.user_log.specs.declared.examiner.Examiner.{Examiner}

-- its schema
abbrev pub examiner_schema : Examiner → DatabaseSchema
examiner_schema examiner = examiner.schema.now

-- its user
abbrev pub examiner_user : Examiner → UserProfile
examiner_user examiner = profile_of examiner.user.now
