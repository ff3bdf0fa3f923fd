mod Numbers
mod PartLaw
mod WorkedReplies
