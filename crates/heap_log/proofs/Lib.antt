mod DueLaws
mod FollowLaws
mod OriginLaws
mod SeenLaws
